pub mod FormLemmas
pub mod WalkLemmas
pub mod LinkLemmas
pub mod PartnerViews
pub mod HasViews
pub mod DraftLemmas
pub mod ChainLemmas
pub mod LinkDates
