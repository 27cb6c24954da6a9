pub mod Control
pub mod Dates
pub mod Guessing
pub mod Messages
pub mod Notes
pub mod Shut
pub mod Web
