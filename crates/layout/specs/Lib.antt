pub mod Layout
pub mod Chained
pub mod Kind
