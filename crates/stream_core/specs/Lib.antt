pub mod Calls
pub mod Seen
pub mod Streams
pub mod Written
