pub mod AnswerLemmas
pub mod QuietLemmas
pub mod MakingLemmas
pub mod PrelinkingLemmas
pub mod CountingLemmas
pub mod SetLemmas
pub mod LawLemmas
