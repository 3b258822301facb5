mod Scripts
mod Nonces
