pub mod Building
pub mod Descent
pub mod Meaning
pub mod Nodes
pub mod Placed
