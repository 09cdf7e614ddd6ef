pub mod DistinctLaws
pub mod StepLaws
pub mod FieldLaws
pub mod ListLaws
pub mod ConflictLaws
pub mod WriteLaws
