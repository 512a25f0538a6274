pub mod Space
pub mod Called
