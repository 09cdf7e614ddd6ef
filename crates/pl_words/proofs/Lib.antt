pub mod AnswerLaws
pub mod FoundLaws
pub mod LineLaws
pub mod NumberLaws
