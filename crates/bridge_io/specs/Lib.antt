pub mod Calls
pub mod Causes
pub mod Memory
pub mod Replacements
pub mod Sink
pub mod Slot
pub mod Streams
pub mod Fill
