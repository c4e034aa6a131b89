pub mod Book
pub mod Eights
pub mod Finds
pub mod Lent
pub mod Scan
pub mod Shape
pub mod Slots
pub mod Words
