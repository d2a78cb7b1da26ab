pub mod Values
pub mod Lines
pub mod Reading
pub mod Near
pub mod Beside
