pub mod Clashes
pub mod Faults
pub mod Walks
pub mod Shapes
pub mod Sets
pub mod Laws
pub mod Orders
pub mod Wholes
