pub mod Stop
pub mod Kinds
pub mod Act
pub mod Tests
pub mod Step
pub mod Call
pub mod Parameters
pub mod Conditions
