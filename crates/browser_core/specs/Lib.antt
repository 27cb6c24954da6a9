pub mod Cookie
pub mod Cuts
pub mod Form
pub mod Known
pub mod Site
pub mod Texts
pub mod Trim
