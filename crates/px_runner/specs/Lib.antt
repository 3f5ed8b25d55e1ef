pub mod Events
pub mod Operands
pub mod Memos
pub mod Gives
pub mod Frames
pub mod Running
pub mod Remembering
