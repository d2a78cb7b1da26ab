pub mod Whole
pub mod Rule
pub mod Known
pub mod Reading
pub mod Saved
