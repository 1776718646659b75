pub mod Host
pub mod Label
pub mod Record
pub mod Recorder
