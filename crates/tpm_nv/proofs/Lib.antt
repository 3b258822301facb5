pub mod Found
pub mod Memory
pub mod KeptValues
