pub mod Frame
pub mod Record
pub mod Theorems
pub mod Joined
pub mod Made
pub mod Measured
pub mod Described
