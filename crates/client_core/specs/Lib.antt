pub mod Asked
pub mod Body
pub mod Message
pub mod ReadBack
pub mod Reply
pub mod Spelled
pub mod Target
