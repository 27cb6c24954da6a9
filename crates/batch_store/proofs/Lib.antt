pub mod BatchLemmas
pub mod CommitLemmas
mod Examples
pub mod FreshLemmas
pub mod MarkLemmas
pub mod RunLemmas
