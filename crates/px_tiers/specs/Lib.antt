pub mod Bytes
pub mod HomeTables
pub mod PartRows
pub mod Parts
pub mod Standings
