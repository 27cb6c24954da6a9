pub mod AcceptLemmas
pub mod CallLemmas
mod Examples
pub mod HeldLemmas
pub mod OnceLemmas
pub mod PauseLemmas
pub mod PlaceLemmas
pub mod ReadLemmas
pub mod ServedLemmas
pub mod StreamLemmas
pub mod TurnLemmas
pub mod WaitLemmas
