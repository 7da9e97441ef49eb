-- The laws of the two sides of a comparison, for this crate's proofs and for the crates above it.
pub mod PortionLaws
pub mod OrderLaws
pub mod OutcomeLaws
pub mod Unique
