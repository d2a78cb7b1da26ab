pub mod FirstLarge
pub mod Places
pub mod Prefixes
pub mod Objects
pub mod Limits
pub mod Written
pub mod Bounds
pub mod Grown
