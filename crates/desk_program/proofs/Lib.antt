pub mod Connections
mod Examples
pub mod InputFaults
pub mod LedLines
pub mod LongInput
pub mod MarkerSearch
pub mod Opened
pub mod PrintedLines
pub mod ReadCounts
pub mod ReadSettings
pub mod Served
pub mod Stepped
