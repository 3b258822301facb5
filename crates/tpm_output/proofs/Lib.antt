pub mod Padded
pub mod Listed
pub mod InputLines
pub mod Tables
pub mod Joins
pub mod Pushed
pub mod LineReading
pub mod Telling
pub mod Renderings
mod Fitting
mod Readable
mod Characters
mod Escaped
mod Passes
mod Pieces
pub mod Read
