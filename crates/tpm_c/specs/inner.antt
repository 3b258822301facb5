-- Definitions that serve proofs alone: no contract that is handed out names them.
pub mod Allowed
pub mod Builds
pub mod Contents
pub mod KeptDevices
pub mod Logs
pub mod SecureBoots
