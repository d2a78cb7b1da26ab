pub mod Form
pub mod Pairs
