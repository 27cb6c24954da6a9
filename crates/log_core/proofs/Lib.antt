mod Examples
mod Plain
mod Steps
