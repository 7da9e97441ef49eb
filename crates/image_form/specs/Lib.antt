pub mod Formats
pub mod Bytes
pub mod Images
pub mod Parts
