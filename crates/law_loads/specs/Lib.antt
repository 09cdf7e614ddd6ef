pub mod Paths
pub mod LoadingFolder
pub mod Loads
pub mod Weaves
-- the loads and weaves, by which what is here is said
pub use Rattle.pl_loader.specs.Started
pub use Rattle.pl_loader.specs.Given
pub use Rattle.pl_weave.specs.Opening
pub use Rattle.pl_weave.specs.Runs
pub use Rattle.pl_weave.specs.Weaving
pub use Rattle.pl_weave.specs.declared.seen.Seen
pub use Rattle.pl_loader.specs.declared.fault.LoadFault
