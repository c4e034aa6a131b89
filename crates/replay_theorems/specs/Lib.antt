pub mod Replay
pub mod Statements
pub mod Heads
pub mod RanLaws
pub mod Left
pub mod Kept
pub mod Unique
