pub mod Slices
pub mod Plain
