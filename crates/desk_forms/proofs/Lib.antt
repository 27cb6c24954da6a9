pub mod Blank
mod Examples
pub mod Texts
