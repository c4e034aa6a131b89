pub mod Concerned
pub mod ConcernedLaws
pub mod HeldLaws
pub mod Stepped
pub mod Stored
