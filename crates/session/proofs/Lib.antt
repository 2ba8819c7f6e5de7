pub mod Lowest
pub mod Orders
pub mod Tables
pub mod Walking
pub mod Listing
pub mod Equality
