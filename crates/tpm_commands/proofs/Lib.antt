pub mod EachCommand
pub mod WholeParams
