pub mod AskLaws
pub mod CookieLaws
mod Examples
mod PathLaws
pub mod WayLaws
