pub mod Behind
pub mod Read
pub mod Staged
pub mod Joining
