pub mod Arms
pub mod Whole
