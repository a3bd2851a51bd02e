pub mod Produced
pub mod Asking
