pub mod Around
pub mod Chains
mod Examples
pub mod Failing
pub mod Given
pub mod Kept
pub mod Listed
pub mod Lists
pub mod Marks
pub mod Placed
pub mod Repeats
