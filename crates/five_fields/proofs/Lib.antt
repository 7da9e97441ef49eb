-- The laws of five-field rules, for this crate's proofs and for the crates above it.
pub mod Examples
pub mod ListLaws
pub mod CheckLaws
pub mod MatchLaws
pub mod CountLaws
pub mod EntryLaws
pub mod PutLaws
pub mod CallLaws
pub mod Theorems
pub mod Unique
