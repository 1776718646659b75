pub mod Text
pub mod Meanings
pub mod Code
pub mod Lines
