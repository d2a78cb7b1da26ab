pub mod Objects
pub mod Arrives
pub mod Accepted
