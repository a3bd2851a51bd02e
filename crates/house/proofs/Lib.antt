pub mod Answered
pub mod Cases
pub mod Made
pub mod Mounted
