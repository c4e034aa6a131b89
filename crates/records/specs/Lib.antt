pub mod Append
pub mod RecordLaws
pub mod Records
