pub mod Running
pub mod Meeting
