pub mod Beyond
pub mod Located
pub mod Spaced
