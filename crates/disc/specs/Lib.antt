pub mod Disc
pub mod Tables
pub mod Session
pub mod Save
pub mod Again
pub mod Own
