-- Definitions that serve proofs alone: no contract that is handed out names them.
pub mod CommandAreas
pub mod ResponseAreas
pub mod Responses
