pub mod ListLines
pub mod AllowLines
pub mod AllowFiles
pub mod Extensions
pub mod LookingUp
pub mod inner
