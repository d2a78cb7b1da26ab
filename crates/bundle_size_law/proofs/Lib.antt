pub mod Groups
pub mod Shorter
