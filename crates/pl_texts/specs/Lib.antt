pub mod Refusals
pub mod Reports
pub mod LoadText
pub mod DoneText
pub mod CacheText
pub mod WeaveText
pub mod DemoText
pub mod Written
pub mod TextSink
pub mod Files
pub mod Looks
pub mod Stops
pub mod Endings
pub mod Order
pub mod Print
pub mod Finds
-- the report of a run, of which a text is said
pub use Rattle.pl_rewrite.specs.declared.rewriting.Report
