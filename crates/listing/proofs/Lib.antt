pub mod Texts
pub mod Held
pub mod Known
