pub mod Folding
pub mod Moving
pub mod Numbered
pub mod Posting
