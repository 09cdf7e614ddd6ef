pub mod Symbol
pub mod Table
pub mod Definers
pub mod Name
pub mod StringEnds
