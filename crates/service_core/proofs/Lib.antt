pub mod AttachLemmas
pub mod DossierLemmas
mod Examples
pub mod KnownLemmas
pub mod Laws
pub mod LeftLemmas
pub mod RenewedDues
pub mod Stepping
pub mod Safely
pub mod StreamLemmas
pub mod Running
pub mod RunsAlike
pub mod StayLemmas
pub mod WrittenAlike
pub mod Linked
pub mod LinkedAlike
pub mod TestLemmas
pub mod ToldLemmas
pub mod Telling
pub mod SightLemmas
pub mod FoundAlike
pub mod FiledLemmas
pub mod FilingLemmas
pub mod FindLemmas
mod HomeLemmas
pub mod LoadsAlike
