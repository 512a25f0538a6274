pub mod Calendar
pub mod Timestamp
