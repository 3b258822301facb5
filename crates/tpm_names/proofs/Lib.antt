pub mod Bits
pub mod Numerals
