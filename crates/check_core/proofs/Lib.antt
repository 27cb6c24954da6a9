pub mod BadRows
mod Examples
mod ExamplesOfNames
mod ExamplesOfTold
pub mod KindLemmas
pub mod NamesRead
pub mod Naming
pub mod Searching
pub mod Telling
pub mod ToldLemmas
pub mod Unread
