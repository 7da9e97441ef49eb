-- The laws of the words of a command line.
pub mod WordLaws
pub mod Unique
