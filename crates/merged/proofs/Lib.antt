pub mod OneWay
pub mod Blocks
pub mod Movement
pub mod Residues
pub mod Calls
pub mod Hosts
pub mod Cases
