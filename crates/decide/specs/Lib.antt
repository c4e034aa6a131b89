pub mod Decide
pub mod Figured
