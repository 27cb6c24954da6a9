pub mod Form
pub mod Grantee
pub mod TextForms
pub mod Kinds
pub mod Keys
pub mod Places
pub mod Walk
pub mod Text
