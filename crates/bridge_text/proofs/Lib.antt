pub mod DigitLemmas
pub mod LineTurns
pub mod PlaceLemmas
pub mod Sets
pub mod UnescapeLemmas
pub mod WordLemmas
