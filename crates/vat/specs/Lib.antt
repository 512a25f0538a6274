pub mod Table
pub mod Sector
pub mod Own
