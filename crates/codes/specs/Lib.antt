pub mod Codes
pub mod Fields
pub mod Six
pub mod Sixteen
