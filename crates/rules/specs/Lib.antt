pub mod Searches
pub mod Tables
pub mod Operations
pub mod Calls
pub mod Naming
pub mod Widening
pub mod Cases
pub mod Orderly
