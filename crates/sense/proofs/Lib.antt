pub mod Packing
pub mod RoundTrip
pub mod Forms
pub mod BothForms
pub mod Known
