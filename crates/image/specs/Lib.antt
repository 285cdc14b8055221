pub mod Blocks
pub mod Images
pub mod Faults
pub mod Sound
