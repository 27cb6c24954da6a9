pub mod Escape
pub mod Extends
pub mod Markup
pub mod Page
pub mod Reading
pub mod Template
pub mod Values
