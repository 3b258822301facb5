pub mod Names
pub mod Owner
pub mod Task
pub mod Stop
pub mod inner
