pub mod KeptRows
pub mod NeededParts
pub mod Pushed
pub mod FirstSets
