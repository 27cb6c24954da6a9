pub mod CookieLemmas
mod Examples
pub mod HeadLaws
pub mod WayLemmas
