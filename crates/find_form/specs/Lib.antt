pub mod Address
pub mod Faults
pub mod Form
pub mod HomeSearches
pub mod Query
pub mod SearchFields
pub mod Shown
