pub mod Pieces
pub mod Words
pub mod Lines
pub mod Description
pub mod Accepting
pub mod Reading
pub mod Writing
pub mod Canonical
