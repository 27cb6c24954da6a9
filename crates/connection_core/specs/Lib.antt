pub mod Laws
pub mod Machine
pub mod Reply
pub mod Seen
