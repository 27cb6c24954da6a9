mod Enough
mod Examples
mod Meets
mod Reading
