pub mod Ladders
pub mod Search
pub mod RungLaws
pub mod LadderLaws
