pub mod Looked
pub mod Steps
pub mod Refused
