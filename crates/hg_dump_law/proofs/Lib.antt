pub mod Known
pub mod Earlier
pub mod Written
pub mod Bundle
pub mod Whole
pub mod Sizes
pub mod After
pub mod Increment
