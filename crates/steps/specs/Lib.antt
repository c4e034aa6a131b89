pub mod Asked
pub mod Steps
