-- The laws of squeezing images, for this crate's proofs and for the crates above it.
pub mod OneLaws
pub mod SqueezedLaws
pub mod NextLaws
pub mod WriteLaws
pub mod Unique
pub mod Demands
