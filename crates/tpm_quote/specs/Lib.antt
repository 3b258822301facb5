-- What contracts on quotes say.
pub mod Attests
pub mod Signatures
