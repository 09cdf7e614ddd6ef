pub mod DigitLaws
pub mod DrawLaws
pub mod LineLaws
pub mod SetLaws
pub mod TextLaws
