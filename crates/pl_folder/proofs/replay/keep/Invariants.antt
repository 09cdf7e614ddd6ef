use Rattle.std.proofs.Common.{◌≡◌, ◌++◌, drop}
use Rattle.pl_folder.specs.Replaying.{changes_of, chosen_changes, keeps}
use Rattle.pl_folder.proofs.replay.keep.Given as goal

abbrev pub invariant-loop-i : goal.invariant-loop-i
invariant-loop-i l = changes_of l.settled.items ++ chosen_changes (keeps l.choice) l.i (changes_of (drop l.i l.changes)) ≡ changes_of l.initial.settled.items ++ chosen_changes (keeps l.choice) 0 (changes_of l.changes)
