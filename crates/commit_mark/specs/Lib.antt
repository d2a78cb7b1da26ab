pub mod Over
pub mod Parts
