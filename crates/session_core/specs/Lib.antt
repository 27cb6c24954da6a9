pub mod Hmac
pub mod Laws
pub mod Seal
pub mod Sessions
