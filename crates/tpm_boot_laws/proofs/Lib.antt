pub mod Sending
pub mod Accepting
pub mod Folding
pub mod Booting
