pub mod Example
pub mod Digits
pub mod Appended
pub mod Refused
pub mod Lines
pub mod Listed
