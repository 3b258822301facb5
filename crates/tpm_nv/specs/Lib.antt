pub mod Answers
pub mod Definitions
pub mod inner
