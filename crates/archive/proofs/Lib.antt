pub mod Runs
pub mod Views
pub mod Theorem
pub mod Viewing
