pub mod Sense
pub mod Descriptors
pub mod Reading
pub mod Turned
