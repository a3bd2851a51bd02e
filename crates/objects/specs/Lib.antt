pub mod Object
pub mod Movement
pub mod Events
pub mod Room
pub mod Transfer
