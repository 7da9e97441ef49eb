-- The laws of the calls on two rules.
pub mod Unique
