pub mod Reading
mod OptionsRead
mod Few
mod Fronts
mod Pieces
mod Heads
