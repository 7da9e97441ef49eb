-- What the proofs of several functions use, and the theorems of accepting a candidate.
mod FirstLaws
mod JudgeLaws
mod CallLaws
mod NumberLaws
pub mod Demands
pub mod Squeezed
pub mod Examples
pub mod Unique
