pub mod Closure
pub mod Index
pub mod People
pub mod Right
pub mod RightsFaults
