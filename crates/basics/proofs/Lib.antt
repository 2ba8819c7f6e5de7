pub mod Listing
pub mod Masks
pub mod Refusing
