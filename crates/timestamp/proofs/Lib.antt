pub mod Dates
pub mod Signed
pub mod Stamps
pub mod Theorems
