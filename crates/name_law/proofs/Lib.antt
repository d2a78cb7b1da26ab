mod Results
mod Pairs
mod Words
mod Forms
pub mod Kept
pub mod Across
pub mod Sizes
