pub mod BundleFormat
pub mod StreamFormat
