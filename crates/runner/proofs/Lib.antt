pub mod Counted
pub mod Keying
