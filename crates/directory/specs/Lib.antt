pub mod Directory
pub mod DirectoryLaws
