-- Definitions that serve proofs alone: no contract that is handed out names them.
pub mod Building
pub mod Capturing
pub mod CommandNames
pub mod PacketsTold
pub mod Pieces
pub mod Remarks
