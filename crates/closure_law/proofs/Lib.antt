pub mod Dumps
pub mod Held
pub mod Kept
pub mod After
