pub mod Differences
mod Examples
pub mod Numbers
pub mod Seals
pub mod Sessions
pub mod Texts
