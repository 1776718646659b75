pub mod Machine
pub mod Go
pub mod Cells
pub mod Rows
pub mod Cases
pub mod Words
