pub mod AllLines
mod Examples
pub mod LineLemmas
