pub mod Once
pub mod Ordered
pub mod Takers
pub mod Under
