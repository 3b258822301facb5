pub mod SecureBoot
pub mod BootPolicy
pub mod Telling
pub mod Vouching
pub mod inner
