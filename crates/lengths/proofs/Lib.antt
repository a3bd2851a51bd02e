pub mod Calls
pub mod Setting
pub mod Uses
pub mod Heeded
