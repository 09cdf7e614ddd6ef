use Rattle.std.proofs.Common.{◌≡◌, drop}
use Rattle.pl_folder.specs.Entries.{name_bytes}
use Rattle.pl_folder.specs.Replaying.{bound_by, changes_of}
use Rattle.pl_folder.proofs.replay.bound.Given as goal

abbrev pub invariant-loop-change : goal.invariant-loop-change
invariant-loop-change l = bound_by (changes_of (drop l.change-index l.changes)) (name_bytes l.name) l.file ≡ bound_by (changes_of l.changes) (name_bytes l.name) l.fn.before
