pub mod Form
pub mod Walk
pub mod Links
