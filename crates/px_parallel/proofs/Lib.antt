pub mod Batching
pub mod Answered
pub mod Refreshing
pub mod Replying
pub mod Heard
pub mod OneLoad
pub mod Summing
pub mod Loaded
