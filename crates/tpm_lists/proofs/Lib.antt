pub mod Registers
pub mod Below
pub mod AllowFinding
mod AllowFronts
mod AllowReading
mod ListReading
mod Spelling
mod Extending
mod Waiting
mod LookingUp
