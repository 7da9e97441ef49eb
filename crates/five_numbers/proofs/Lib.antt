-- The laws of five numbers and their header, for this crate's proofs and for the crates above it.
pub mod Examples
pub mod FieldLaws
pub mod Theorems
pub mod Unique
