pub mod Prune
pub mod Calls
pub mod Inner
