pub mod Prefix
pub mod Sorting
