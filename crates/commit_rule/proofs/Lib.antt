pub mod ListLemmas
pub mod BlobLemmas
pub mod TreeObjects
pub mod LeafObjects
pub mod FileLemmas
pub mod Handed
pub mod RuledLemmas
pub mod Tables
