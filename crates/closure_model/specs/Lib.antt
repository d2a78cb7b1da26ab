pub mod Shaped
pub mod Arrives
pub mod Closure
