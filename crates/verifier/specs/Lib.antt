pub mod Numbering
pub mod Verdicts
pub mod Worklist
pub mod Bytes
pub mod Cases
