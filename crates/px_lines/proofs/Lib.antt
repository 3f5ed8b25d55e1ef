pub mod FeedEnds
pub mod FeedFronts
pub mod FeedItems
pub mod FeedLines
pub mod FeedStands
pub mod Fronts
pub mod Spoken
