pub mod Table
pub mod Rules
pub mod Flags
