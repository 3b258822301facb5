pub mod Quotes
mod Requiring
mod Signed
