pub mod Numbers
pub mod Typed
pub mod TypedLaws
