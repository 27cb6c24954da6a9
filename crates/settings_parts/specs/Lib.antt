pub mod Values
pub mod PeopleParts
pub mod LifecycleParts
pub mod CalendarParts
pub mod LevelParts
pub mod Whole
