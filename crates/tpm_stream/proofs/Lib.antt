pub mod Framed
pub mod Filled
pub mod Streamed
