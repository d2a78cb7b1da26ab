pub mod Heads
pub mod Sections
pub mod Sizes
pub mod Stands
pub mod Whole
pub mod Faults
