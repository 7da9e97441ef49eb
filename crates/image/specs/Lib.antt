pub mod Places
pub mod Replies
pub mod Calls
pub mod Found
pub mod Filled
