pub mod Extends
pub mod Vouched
pub mod Record
pub mod Allowed
pub mod Order
pub mod inner
