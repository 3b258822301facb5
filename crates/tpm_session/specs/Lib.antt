pub mod Answers
pub mod Entities
pub mod Policies
pub mod inner
