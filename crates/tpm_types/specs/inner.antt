-- Definitions that serve proofs alone: no contract that is handed out names them.
pub mod Alg
pub mod Tpms
