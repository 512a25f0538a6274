pub mod Outcomes
pub mod Left
