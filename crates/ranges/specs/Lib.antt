pub mod Prefixes
pub mod Ranges
pub mod Calls
pub mod Inner
