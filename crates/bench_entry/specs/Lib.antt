-- Definitions for the contracts of the benchmark's entries.
pub mod Rows
