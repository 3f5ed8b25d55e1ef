pub mod Answering
pub mod Ending
pub mod Fronts
pub mod Taking
pub mod Turning
