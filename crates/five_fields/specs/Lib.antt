pub mod FiveFieldRule
pub mod FiveFieldRules
pub mod Slices
pub mod Expansion
pub mod Calls
pub mod Inner
