mod CountLemmas
mod Examples
mod LetterLemmas
mod NumberLemmas
mod PageLemmas
pub mod PlaceLemmas
pub mod RisingLemmas
pub mod ViewLemmas
mod WordLemmas
