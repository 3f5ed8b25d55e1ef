pub mod Trees
pub mod Events
