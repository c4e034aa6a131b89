pub mod Earns
pub mod Exactly
pub mod Touched
