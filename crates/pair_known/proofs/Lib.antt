pub mod PairLemmas
pub mod HeldViews
pub mod FreshLemmas
pub mod NearLemmas
pub mod Rising
pub mod HeldCommits
pub mod ViewFaults
pub mod PartnerLemmas
