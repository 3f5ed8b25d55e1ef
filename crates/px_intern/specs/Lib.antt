pub mod Proper
pub mod Answers
