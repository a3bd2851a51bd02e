pub mod Produced
pub mod Listed
pub mod Asked
