mod Examples
pub mod Repeated
pub mod Rights
