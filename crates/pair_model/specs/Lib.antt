pub mod User
pub mod MarkList
pub mod Block
pub mod Rule
pub mod Octopus
pub mod Plain
pub mod Collision
