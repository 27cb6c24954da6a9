pub mod Examples
pub mod GuardLemmas
pub mod MessageLemmas
pub mod NoteLemmas
pub mod RunLemmas
pub mod StepLemmas
