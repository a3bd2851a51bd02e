pub mod Fields
pub mod First
pub mod Told
