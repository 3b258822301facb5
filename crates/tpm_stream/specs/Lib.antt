pub mod Frames
pub mod Reads
pub mod Streams
pub mod inner
