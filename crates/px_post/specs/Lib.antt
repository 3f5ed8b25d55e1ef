pub mod Letters
pub mod Mail
pub mod Rows
pub mod Sending
