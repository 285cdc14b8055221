pub mod Observer
pub mod Alone
pub mod Law
pub mod Runs
pub mod EmptyEngines
