-- The laws of the lines of a comparison.
pub mod ShownLaws
pub mod Unique
