pub mod Search
pub mod Layout
pub mod Tables
pub mod Rules
pub mod Sound
pub mod Parts
