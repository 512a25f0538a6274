pub mod Extents
pub mod Words
pub mod Record
pub mod Theorems
