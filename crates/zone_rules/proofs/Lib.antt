mod Examples
pub mod RuleLemmas
pub mod TextLemmas
pub mod YearLemmas
