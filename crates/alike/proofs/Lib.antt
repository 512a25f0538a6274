pub mod Discs
pub mod Calls
pub mod Views
pub mod Ahead
pub mod Scribbles
