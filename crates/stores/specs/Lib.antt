pub mod Meaning
pub mod Store
pub mod Table
pub mod TableLaws
