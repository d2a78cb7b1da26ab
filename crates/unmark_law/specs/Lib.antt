pub mod Unmarkings
