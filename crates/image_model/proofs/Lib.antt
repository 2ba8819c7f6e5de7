pub mod Complement
pub mod Numbers
pub mod Packing
pub mod Patches
pub mod Places
