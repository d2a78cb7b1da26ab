pub mod Line
pub mod Targets
pub mod Reading
