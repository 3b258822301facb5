-- The commands by the chapters of Part 3: the row of each, and the layouts that it names.
pub mod Startup
pub mod Session
pub mod Pcr
pub mod Policy
pub mod Context
pub mod Nv
