pub mod Laws
pub mod Stores
pub mod Wraps
pub mod Flags
