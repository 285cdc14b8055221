pub mod Searches
pub mod Stations
pub mod Widening
pub mod Naming
pub mod Cases
pub mod Admission
pub mod Spared
