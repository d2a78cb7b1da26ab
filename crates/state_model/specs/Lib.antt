pub mod Limits
pub mod Kept
pub mod Tags
pub mod Text
pub mod Ref
pub mod Names
pub mod Saved
