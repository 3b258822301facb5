pub mod Script
pub mod MemoryText
pub mod ShowNv
pub mod inner
