pub mod Walks
pub mod Directions
pub mod Laws
