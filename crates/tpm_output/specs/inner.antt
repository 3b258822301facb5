-- Definitions that serve proofs alone: no contract that is handed out names them.
pub mod Escapes
pub mod InputLines
pub mod LineReading
pub mod Reads
