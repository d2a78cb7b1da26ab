mod Counts
mod BundleFormatLaws
mod StreamFormatLaws
mod BundlePulls
mod StreamPulls
mod PullLaws
