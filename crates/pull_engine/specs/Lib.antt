pub mod Read
pub mod Names
pub mod Limit
pub mod Places
pub mod Tags
