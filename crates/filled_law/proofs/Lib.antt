pub mod Walk
pub mod MarkedRows
pub mod Parts
pub mod Filled
pub mod Right
pub mod Plain
