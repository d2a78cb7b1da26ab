mod Lookups
mod Came
mod Earlier
mod Next
mod NewTags
mod StreamBytes
mod BundlePull
mod StreamPull
mod Large
pub mod Empty
mod Tagged
