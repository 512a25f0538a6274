pub mod Delivered
pub mod Drawn
