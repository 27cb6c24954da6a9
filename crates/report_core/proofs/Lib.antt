mod Examples
pub mod Halves
pub mod LoadLemmas
