pub mod ExtensionTwo
pub mod AnswersTwo
