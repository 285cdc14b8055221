pub mod Parts
pub mod Chunks
pub mod Blocks
pub mod RowsWritten
pub mod FirstFault
pub mod Sound
pub mod NewImage
pub mod Lanes
