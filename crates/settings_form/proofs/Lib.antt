mod Examples
pub mod Laws
pub mod Places
pub mod Prefixes
pub mod Trees
