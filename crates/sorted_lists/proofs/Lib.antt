pub mod PlacedLemmas
pub mod Rising
pub mod SortedLemmas
