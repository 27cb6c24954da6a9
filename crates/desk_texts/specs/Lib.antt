pub mod Columns
pub mod Short
pub mod Texts
pub mod Words
