-- The laws of words, for the crate's own proofs and for the crates above it.
pub mod Tests
pub mod BitLaws
pub mod SeamLaws
pub mod WordLaws
pub mod SliceLaws
pub mod Unique
