pub mod Noting
pub mod Replying
pub mod Standing
