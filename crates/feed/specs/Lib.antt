pub mod Feed
pub mod FeedLaws
pub mod Step
