-- The laws of numbers and patterns as text.
pub mod PutLaws
pub mod NumberLaws
pub mod DecimalLaws
pub mod DigitLaws
pub mod RoundTrip
pub mod PatternLaws
pub mod Unique
