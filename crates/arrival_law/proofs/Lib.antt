pub mod Views
pub mod Bundle
pub mod Stream
pub mod Objects
pub mod Arrivals
pub mod Known
pub mod Whole
