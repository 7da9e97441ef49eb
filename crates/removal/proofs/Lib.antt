-- The laws of taking a rule out, for its own proofs and for the crates above it.
pub mod RemoveLaws
pub mod Unique
