mod Both
pub mod Cookies
pub mod Decodes
mod Examples
pub mod Names
pub mod Stops
pub mod Trims
