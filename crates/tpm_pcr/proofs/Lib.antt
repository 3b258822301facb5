pub mod Places
pub mod Values
pub mod Stands
pub mod Choice
pub mod Entries
