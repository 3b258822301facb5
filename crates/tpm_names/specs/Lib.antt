pub mod Meanings
pub mod Codes
pub mod Numbers
pub mod Selections
