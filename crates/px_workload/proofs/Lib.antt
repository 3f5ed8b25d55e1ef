pub mod Climbing
pub mod Following
pub mod Growing
pub mod Legal
pub mod Listing
pub mod Standing
pub mod Refusing
