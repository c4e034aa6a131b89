pub mod Admission
pub mod SideLaws
pub mod Sides
