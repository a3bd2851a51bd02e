pub mod Trailers
pub mod Least
