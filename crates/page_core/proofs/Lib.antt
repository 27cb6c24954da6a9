mod Examples
pub mod Fills
pub mod Harmless
pub mod Injection
pub mod Lossless
pub mod Puts
pub mod Same
pub mod Shows
pub mod Templates
pub mod Walks
