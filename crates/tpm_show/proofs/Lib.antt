mod Captures
mod Pieces
mod Streams
mod EntriesTold
