pub mod LineTurns
pub mod ReadLemmas
pub mod CursorLemmas
pub mod NearLemmas
pub mod BesideLemmas
