pub mod Finds
pub mod Loops
pub mod Kept
pub mod Sounds
pub mod Answered
