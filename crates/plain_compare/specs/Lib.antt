-- What the contracts of the plain comparison cite.
pub mod Calls
pub mod Walk
