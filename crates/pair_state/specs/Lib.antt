pub mod Blocks
pub mod AllBlocks
pub mod Push
pub mod Step
pub mod Came
pub mod Names
