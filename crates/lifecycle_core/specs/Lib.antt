pub mod Fault
pub mod Lifecycle
pub mod Pairs
pub mod Standard
