pub mod Script
pub mod Schedule
pub mod Finishes
pub mod History
pub mod Buffer
pub mod Limits
pub mod Started
pub mod Example
