pub mod Carried
pub mod DecisionContext
pub mod Decision
pub mod Lawful
pub mod Laws
pub mod Shown
pub mod Usual
