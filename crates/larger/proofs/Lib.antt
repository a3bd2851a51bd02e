pub mod Above
pub mod Images
pub mod Calls
pub mod Uses
pub mod Blocks
pub mod Kept
pub mod Products
