pub mod Offered
pub mod Performs
pub mod Fails
pub mod FaultText
pub mod Ends
pub mod inner
