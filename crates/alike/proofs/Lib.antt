pub mod Alike
pub mod Moves
pub mod Files
