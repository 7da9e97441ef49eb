pub mod Comparing
pub mod Parts
