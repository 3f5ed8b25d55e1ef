pub mod Answering
pub mod Leading
pub mod Replying
pub mod Hearing
pub mod Sums
