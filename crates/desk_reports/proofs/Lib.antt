pub mod GatheredLemmas
pub mod LateLemmas
pub mod PrintedLemmas
pub mod Reported
pub mod ShownLemmas
