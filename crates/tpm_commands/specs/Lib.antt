pub mod Row
pub mod Limits
pub mod Table
pub mod Handles
pub mod Parameters
pub mod Commands
pub mod Replies
pub mod Events
