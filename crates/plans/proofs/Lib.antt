mod Descending
mod Growing
pub mod Starts
