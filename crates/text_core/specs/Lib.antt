pub mod Form
pub mod Lookup
pub mod Texts
