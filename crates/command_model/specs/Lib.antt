pub mod Run
pub mod Names
pub mod Made
pub mod Command
pub mod Headline
pub mod Across
