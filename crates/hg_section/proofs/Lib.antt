pub mod NodeLemmas
pub mod One
pub mod Dumped
pub mod ToldTexts
