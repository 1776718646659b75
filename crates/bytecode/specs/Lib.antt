pub mod Opcodes
pub mod Encoding
pub mod Places
pub mod Rules
pub mod Flow
pub mod Walk
