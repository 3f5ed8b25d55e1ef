pub mod Fronts
pub mod Replying
pub mod Served
pub mod Standing
pub mod Waiting
