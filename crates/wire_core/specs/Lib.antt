pub mod Counted
pub mod Fault
pub mod Replies
pub mod Rooms
pub mod Runs
pub mod Served
pub mod Steps
