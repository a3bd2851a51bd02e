pub mod Tests
pub mod Facts
pub mod Objects
pub mod Judged
pub mod Lies
