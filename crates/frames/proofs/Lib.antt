pub mod Stack
pub mod Parts
pub mod Writes
pub mod Left
pub mod NewFrame
pub mod Raising
pub mod LaidCells
