-- Definitions that serve proofs alone: no contract that is handed out names them.
pub mod Checks
pub mod Actions
pub mod Answers
pub mod Performing
