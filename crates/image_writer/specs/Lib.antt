pub mod Writing
pub mod Putting
