pub mod Facts
pub mod RoundTrip
pub mod Judged
