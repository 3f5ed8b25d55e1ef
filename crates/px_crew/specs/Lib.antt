pub mod Crews
pub mod Drawn
