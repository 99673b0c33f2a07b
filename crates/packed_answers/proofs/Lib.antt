pub mod Answers
pub mod LogsLaws
