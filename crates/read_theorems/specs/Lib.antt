pub mod Statements
pub mod Types
pub mod Means
pub mod Faults
pub mod Fields
pub mod Unique
pub mod Given
