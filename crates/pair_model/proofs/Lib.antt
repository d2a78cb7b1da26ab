pub mod EndLemmas
pub mod AddressLemmas
pub mod ZoneLemmas
pub mod UserLemmas
pub mod MessageLemmas
pub mod LinkValues
pub mod RuledFiles
