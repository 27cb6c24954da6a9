pub mod ConnectionLemmas
mod Examples
pub mod HeardLemmas
pub mod HearsLemmas
