pub mod Put
pub mod Numbers
pub mod Decimal
pub mod Patterns
