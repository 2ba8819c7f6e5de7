pub mod Alike
pub mod Lists
pub mod Refusals
pub mod Sets
