-- The laws of an image's form, for this crate's proofs and for the crates above it.
pub mod FormatLaws
pub mod NumberLaws
pub mod PartLaws
pub mod Unique
