pub mod NumberLaws
pub mod LimitLaws
pub mod NamedLaws
pub mod ScriptLaws
