pub mod Laws
pub mod PageReply
