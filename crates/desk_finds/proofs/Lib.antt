mod FoundLemmas
mod LoadLemmas
mod RoleLemmas
