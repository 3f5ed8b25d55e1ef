pub mod Accepted
pub mod Changes
pub mod Listed
pub mod Refusals
pub mod Slots
pub mod Stands
