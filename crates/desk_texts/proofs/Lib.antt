pub mod Columns
pub mod DeskUnchanged
mod Examples
pub mod Puts
