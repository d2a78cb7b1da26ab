pub mod Refused
pub mod Takes
pub mod Names
pub mod Pulls
pub mod Steps
