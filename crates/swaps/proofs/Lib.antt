-- The laws of bit-swaps, for this crate's proofs and for the crates above it.
pub mod WordLaws
pub mod SwapLaws
pub mod MoveLaws
pub mod ReturnLaws
pub mod SwapSteps
pub mod SwapCallLaws
pub mod SwapTheorems
pub mod SwapCallTheorems
pub mod SwapUnique
pub mod SwapAnswers
