pub mod Statements
pub mod Means
pub mod Sights
pub mod Earns
pub mod Touched
pub mod Unique
