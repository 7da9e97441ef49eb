-- The laws of written images, for this crate's proofs and for the crates above it.
pub mod PutLaws
pub mod GivenLaws
pub mod WriteLaws
pub mod FullLaws
pub mod AgainLaws
pub mod CarryLaws
pub mod ListLaws
pub mod CollectLaws
pub mod Theorems
pub mod Demands
pub mod Unique
