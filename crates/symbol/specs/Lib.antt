pub mod Symbol
pub mod Stocks
pub mod Unpadded
pub mod Formed
pub mod Means
pub mod Parts
pub mod Example
