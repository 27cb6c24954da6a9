pub mod Elsewhere
mod Examples
pub mod Fronts
pub mod HeadEnds
pub mod HeadLemmas
pub mod Heads
pub mod MessageLemmas
pub mod OneReading
pub mod PieceLemmas
pub mod ReplyLemmas
pub mod StatedLemmas
pub mod Turns
