pub mod Read
pub mod ReadLaws
