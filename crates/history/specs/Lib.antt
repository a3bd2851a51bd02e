pub mod History
pub mod Answered
pub mod Demand3
pub mod Always
pub mod Tiles
pub mod Lives
