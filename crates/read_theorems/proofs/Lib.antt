pub mod Exactly
pub mod Fields
pub mod Given
