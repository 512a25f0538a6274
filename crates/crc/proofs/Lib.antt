pub mod Laws
pub mod Xor
pub mod Linear
pub mod Numbers
pub mod Folding
pub mod Taken
pub mod Entries
pub mod Words
