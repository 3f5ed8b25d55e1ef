pub mod CutShort
pub mod Documents
pub mod Findings
pub mod Outputs
pub mod Stops
pub mod Proofs
pub mod Rows
