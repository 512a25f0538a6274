pub mod States
pub mod Starred
pub mod Apart
