pub mod Walk
pub mod Residue
pub mod Standing
pub mod Count
pub mod Cases
pub mod Fitting
