pub mod Apply
pub mod ApplyLaws
pub mod Runs
