pub mod Searches
pub mod Finding
pub mod Turning
pub mod Admitting
