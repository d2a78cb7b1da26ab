pub mod NextLemmas
pub mod MergeLemmas
pub mod FilesLemmas
pub mod ManifestLemmas
