pub mod DigestLengths
pub mod Trimming
pub mod Filling
pub mod Differences
pub mod KdfaBlocks
pub mod Precomputed
pub mod Joined
pub mod Among
