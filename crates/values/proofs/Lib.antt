pub mod Nonzero
pub mod Timed
