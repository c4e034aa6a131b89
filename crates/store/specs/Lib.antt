pub mod Store
pub mod StoreLaws
