pub mod Rows
pub mod Needing
