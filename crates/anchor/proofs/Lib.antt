pub mod Theorems
pub mod Passing
