pub use Rattle.text_core.specs.Form
pub use Rattle.desk_forms.specs.Number
pub mod Arguments
pub mod Faults
pub mod Line
pub mod Reader
pub mod Spelling
pub mod Words
