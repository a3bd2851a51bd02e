pub mod Mount
pub mod Images
