pub mod Positioned
pub mod Selected
