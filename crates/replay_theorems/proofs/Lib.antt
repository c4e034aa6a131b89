pub mod Kept
pub mod Listing
pub mod Replays
