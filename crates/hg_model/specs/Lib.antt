pub mod Chunk
pub mod Delta
pub mod Changeset
pub mod Manifest
pub mod FileText
pub mod Revision
pub mod Bundle
pub mod Reading
