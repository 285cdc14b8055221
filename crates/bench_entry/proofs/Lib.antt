-- Lemmas for the benchmark's entries.
mod Copied
