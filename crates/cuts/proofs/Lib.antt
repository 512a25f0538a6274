pub mod Pages
pub mod Worked
pub mod CutCommit
pub mod Lists
pub mod Drawn
pub mod Dated
pub mod Viewed
