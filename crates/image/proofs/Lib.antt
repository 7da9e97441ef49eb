-- The laws of images that are asked and read, for this crate's proofs and for the crates above it.
pub mod SeekLaws
pub mod AskLaws
pub mod PassedLaws
pub mod ReadLaws
pub mod FullLaws
pub mod BackLaws
pub mod Theorems
pub mod Unique
pub mod Rows
