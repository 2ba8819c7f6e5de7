mod Rows
pub mod Stores
