pub mod Alike
pub mod Scribbles
