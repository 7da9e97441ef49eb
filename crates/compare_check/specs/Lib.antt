-- What the contracts of the two sides of a comparison cite.
pub mod Outcomes
pub mod Checks
