mod Examples
pub mod Bounds
pub mod Built
pub mod Empty
pub mod Faults
pub mod Found
pub mod Gathered
pub mod Sound
pub mod Zones
