pub mod Adding
pub mod Words
pub mod Ordered
