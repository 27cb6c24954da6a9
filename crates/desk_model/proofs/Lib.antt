pub mod DueLemmas
mod Examples
pub mod StayLemmas
