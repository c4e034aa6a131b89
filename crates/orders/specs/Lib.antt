pub mod Order
pub mod Soundness
pub mod OrderLaws
