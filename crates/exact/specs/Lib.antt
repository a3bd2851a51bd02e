pub mod House
pub mod Residues
pub mod Senses
pub mod Carried
pub mod Numbers
pub mod EndOfData
pub mod Crossed
