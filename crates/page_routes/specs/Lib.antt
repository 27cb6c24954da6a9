pub mod Faults
pub mod FormArguments
pub mod Fronts
pub mod HeadBox
pub mod Laws
pub mod Paths
pub mod Places
pub mod Visits
