pub mod Anonymous
pub mod Meetings
pub mod Owning
pub mod PutIn
pub mod Replied
