pub mod Bytes
pub mod Fields
pub mod Halves
pub mod Rows
pub mod Runs
