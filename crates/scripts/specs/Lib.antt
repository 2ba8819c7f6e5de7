pub mod Of
pub mod Found
