pub mod Alike
pub mod Asked
pub mod Acts
pub mod Told
