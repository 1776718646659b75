pub mod Tables
pub mod Decoding
pub mod Walks
pub mod Accepted
pub mod Filled
pub mod Points
pub mod Coded
pub mod Turns
