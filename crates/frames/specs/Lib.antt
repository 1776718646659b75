pub mod Laid
pub mod Frames
