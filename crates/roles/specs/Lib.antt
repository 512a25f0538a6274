pub mod Roles
pub mod Keeping
