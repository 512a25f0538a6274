pub mod Inhabited
pub mod Unsaved
