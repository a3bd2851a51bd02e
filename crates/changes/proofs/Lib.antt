pub mod Retitled
pub mod Erased
pub mod Placed
pub mod Alike
pub mod Obeys
pub mod Freed
pub mod Down
