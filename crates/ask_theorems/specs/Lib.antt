pub mod Statements
pub mod Books
pub mod Cases
pub mod Exactly
pub mod Quotes
pub mod Unique
