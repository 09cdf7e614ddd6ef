pub mod Changes
pub mod Reports
pub mod Words
pub mod Flags
pub mod Fills
pub mod Sources
pub mod Forms
pub mod Libraries
pub mod Rows
pub mod Digests
pub mod RowWords
pub mod Contents
pub mod Held
pub mod Ranges
pub mod RemainingRows
pub mod Copies
pub mod Outcomes
pub mod Rewriting
pub mod Laws
pub mod Verify
pub mod History
-- the format of prelinked files, by which what is here is said
pub use Rattle.pl_conflict.specs.Format
-- what a run plans over a folder's files, by which what is here is said
pub use Rattle.pl_cone.specs.Candidates
pub use Rattle.pl_cone.specs.Faulted
pub use Rattle.pl_cone.specs.Faults
pub use Rattle.pl_cone.specs.Fits
pub use Rattle.pl_cone.specs.Plans
pub use Rattle.pl_cone.specs.Skipped
pub use Rattle.pl_cone.specs.Skips
pub use Rattle.pl_cone.specs.Taken
pub use Rattle.pl_cone.specs.declared.planning.Asked
pub use Rattle.pl_cone.specs.declared.skip.PlanningFault
pub use Rattle.pl_cone.specs.declared.skip.ConeFault
pub use Rattle.pl_cone.specs.declared.skip.Skip
pub use Rattle.pl_cone.specs.declared.currency.TheConstants as LastStamps
pub use Rattle.pl_cone.specs.declared.taken.Taken as TakenFile
