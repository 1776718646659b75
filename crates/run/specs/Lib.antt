pub mod Sound
pub mod Standing
pub mod Done
pub mod Step
pub mod Run
