pub mod Sent
pub mod Faults
pub mod Opens
pub mod Plain
pub mod inner
