mod Examples
pub mod Restored
pub mod Right
