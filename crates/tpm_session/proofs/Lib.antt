pub mod Authorized
pub mod Keys
pub mod Slots
pub mod Asserted
