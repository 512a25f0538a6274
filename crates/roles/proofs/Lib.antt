pub mod Roles
pub mod Lent
pub mod Naming
pub mod Tables
pub mod Scanning
