pub mod Finding
pub mod Resting
pub mod SameBoot
pub mod Texts
pub mod Saying
pub mod OneDigest
pub mod Vouching
