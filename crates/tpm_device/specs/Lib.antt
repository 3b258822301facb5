pub mod Runs
pub mod Lives
pub mod Stands
pub mod inner
