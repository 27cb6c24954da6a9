pub mod Guesses
pub mod Laws
