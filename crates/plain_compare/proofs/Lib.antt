-- What the proofs of several functions use, and the theorems of the plain comparison.
pub mod Same
pub mod Unique
mod AnswerLaws
mod ListingLaws
mod WalkLaws
mod CallLaws
