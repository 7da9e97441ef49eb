-- What the contract of accepting a candidate cites.
pub mod Rejections
pub mod Accepting
pub mod Inner
