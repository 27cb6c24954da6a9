pub mod Cuts
mod Examples
pub mod Paths
pub mod Stated
