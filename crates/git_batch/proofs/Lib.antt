pub mod HeaderLemmas
pub mod ReadLemmas
pub mod Progress
pub mod ListingLemmas
pub mod AddLemmas
pub mod Reading
pub mod StreamLaws
