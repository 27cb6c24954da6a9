mod Examples
pub mod Counting
