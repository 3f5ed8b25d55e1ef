pub mod Changing
pub mod FeedLines
pub mod FeedTaking
pub mod Matching
pub mod Noting
