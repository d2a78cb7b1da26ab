pub mod Increment
