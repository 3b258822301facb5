pub mod Hashes
pub mod Hmac
pub mod Sessions
pub mod Keys
pub mod Among
pub mod inner
