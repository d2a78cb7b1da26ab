pub mod DateLineLemmas
pub mod EscapeLemmas
pub mod HeadLemmas
pub mod ItemsLemmas
