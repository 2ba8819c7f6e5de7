pub mod Of
pub mod Equal
pub mod Always
pub mod Reports
pub mod Edges
