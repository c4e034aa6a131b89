pub mod LevelRuns
pub mod OrderRuns
pub mod OwnOnly
