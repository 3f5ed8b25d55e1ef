pub mod Growing
pub mod Tails
