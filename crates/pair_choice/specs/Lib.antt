pub mod Bodies
pub mod Chosen
pub mod Depths
pub mod Parts
