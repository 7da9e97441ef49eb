-- The laws of prefixes and ranges, for this crate's proofs and for the crates above it.
pub mod Examples
pub mod CoverLaws
pub mod PrefixLaws
pub mod RangeLaws
pub mod StepLaws
pub mod FewLaws
pub mod FewestLaws
pub mod CallLaws
pub mod PutLaws
pub mod Theorems
pub mod Unique
