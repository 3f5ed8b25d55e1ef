pub mod Counts
pub mod Flowing
pub mod Fronts
