pub mod Commands
pub mod Cuts
pub mod Fault
pub mod Members
pub mod Places
pub mod Rows
pub mod JsonArguments
