mod Examples
pub mod Found
pub mod Made
pub mod Placed
pub mod Read
pub mod TextTables
