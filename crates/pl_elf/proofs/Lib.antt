pub mod TableLaws
pub mod WrittenLaws
pub mod AcceptedLaws
pub mod SweepLaws
