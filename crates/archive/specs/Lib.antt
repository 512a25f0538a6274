pub mod Earlier
pub mod Viewing
