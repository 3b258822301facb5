pub mod Registers
pub mod Banks
pub mod Answers
pub mod inner
