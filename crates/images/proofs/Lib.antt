pub mod Last
pub mod Numbered
