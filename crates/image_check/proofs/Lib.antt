-- The laws of an image's checks, for this crate's proofs and for the crates above it.
pub mod BareLaws
pub mod CountLaws
pub mod HeadLaws
pub mod PassedLaws
pub mod FullLaws
pub mod StepLaws
pub mod Unique
