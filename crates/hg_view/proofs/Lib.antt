pub mod FilePairs
pub mod Held
pub mod Right
pub mod One
pub mod Grown
