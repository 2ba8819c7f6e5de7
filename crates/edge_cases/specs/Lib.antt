pub mod Rules
pub mod Sessions
pub mod Stores
