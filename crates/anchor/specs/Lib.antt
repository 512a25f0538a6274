pub mod Anchor
