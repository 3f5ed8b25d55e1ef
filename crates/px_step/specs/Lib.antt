pub mod Popping
pub mod Valuing
