-- The laws of the prefix bit-swap.
pub mod SortLaws
pub mod StarLaws
pub mod CrossLaws
pub mod Steps
pub mod Theorems
pub mod Unique
