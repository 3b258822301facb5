-- Definitions that serve proofs alone: no contract that is handed out names them.
pub mod Blocks
pub mod Entries
pub mod Files
pub mod Numbers
pub mod Sections
pub mod Segments
pub mod Talks
pub mod Ways
