mod Examples
pub mod AlikePages
pub mod Answering
pub mod HeadOnly
pub mod PageLaws
pub mod ReplyHeads
pub mod Steps
pub mod TokenLemmas
