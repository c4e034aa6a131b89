pub mod Fresh
pub mod FreshLaws
