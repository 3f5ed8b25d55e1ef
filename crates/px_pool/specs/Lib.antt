pub mod Batches
pub mod Working
pub mod Placing
pub mod Gathering
pub mod Counting
