pub mod Large
pub mod Sizes
