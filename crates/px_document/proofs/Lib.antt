pub mod Coming
pub mod Found
pub mod Opened
pub mod OneFinding
