-- Definitions that serve proofs alone: no contract that is handed out names them.
pub mod AllowedBoot
pub mod CheckAttest
pub mod Comparing
pub mod Kinds
pub mod SecureBootLines
pub mod Told
