pub mod Changes
pub mod Holdable
pub mod Object
