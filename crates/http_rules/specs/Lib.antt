pub mod Date
pub mod Expectation
pub mod Host
pub mod Rules
pub mod Target
