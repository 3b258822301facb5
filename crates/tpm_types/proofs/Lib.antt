pub mod Algs
pub mod Short
