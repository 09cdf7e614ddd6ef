pub mod MoveLaws
pub mod TableLaws
pub mod ObjectLaws
