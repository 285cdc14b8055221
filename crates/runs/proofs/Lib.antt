pub mod Histories
pub mod Tables
pub mod Lawful
