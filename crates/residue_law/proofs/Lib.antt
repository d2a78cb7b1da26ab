pub mod Fits
pub mod FilledCommits
