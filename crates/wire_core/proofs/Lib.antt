pub mod Apart
mod Examples
pub mod Forms
pub mod Refused
pub mod Serving
pub mod Stepping
