-- Each way to answer a question
pub mod AnswerLines
