pub mod Grants
pub mod Lines
pub mod Parts
pub mod Place
pub mod Placed
pub mod Reading
pub mod Told
