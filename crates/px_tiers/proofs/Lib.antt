pub mod Collecting
pub mod Matching
pub mod Remembering
pub mod Settling
pub mod Shared
