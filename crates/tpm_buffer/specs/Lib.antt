pub mod Commands
pub mod Parts
pub mod CommandAreas
pub mod Responses
pub mod ResponseAreas
pub mod inner
