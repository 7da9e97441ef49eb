-- The laws of comparing lists of images, for this crate's proofs and for the crates above it.
pub mod FirstLaws
pub mod CompareLaws
pub mod Unique
