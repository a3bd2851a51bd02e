pub mod Image
pub mod Within
pub mod Parts
pub mod Example
pub mod Sound
