mod Examples
pub mod LoadLemmas
