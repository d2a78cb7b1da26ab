pub mod Walks
pub mod Fills
pub mod Wholes
