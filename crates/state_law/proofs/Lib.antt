pub mod Lengths
pub mod Names
pub mod Next
pub mod Set
pub mod Back
pub mod Printed
