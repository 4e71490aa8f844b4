pub mod Questions
pub mod WriteAnswers
