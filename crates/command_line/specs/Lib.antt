-- What the contract of the public call cites.
pub mod Words
