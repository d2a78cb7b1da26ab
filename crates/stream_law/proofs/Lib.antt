pub mod ReadStream
pub mod Fits
pub mod Names
pub mod Trees
pub mod Sound
pub mod ReadGit
pub mod StreamLeft
