pub mod Squeezing
pub mod Weaving
pub mod Parts
