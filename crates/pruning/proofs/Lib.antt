-- What the proofs of several functions use, and the theorems of pruning.
pub mod OrderLaws
pub mod Theorems
pub mod Examples
mod AskLaws
mod PassLaws
mod ShowLaws
mod CallLaws
pub mod Unique
pub mod Demands
