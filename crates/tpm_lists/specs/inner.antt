-- Definitions that serve proofs alone: no contract that is handed out names them.
pub mod ListReading
pub mod AllowIndex
pub mod AllowReading
pub mod Digits
pub mod LookingUp
pub mod Waiting
