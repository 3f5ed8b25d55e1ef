pub mod Shelved
pub mod Tabled
pub mod Numbered
pub mod Kept
pub mod Held
pub mod Moved
pub mod Unread
