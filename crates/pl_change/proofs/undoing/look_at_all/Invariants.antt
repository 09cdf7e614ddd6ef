use Rattle.std.proofs.Common.{drop, take}
use Rattle.pl_change.proofs.LookedLemmas.{LooksSoFar}
use Rattle.pl_change.proofs.undoing.look_at_all.Given as goal

abbrev pub invariant-loop-name : goal.invariant-loop-name
invariant-loop-name g l = LooksSoFar (g.D.Folder.seen l.fn.folder) (g.D.Folder.seen l.folder) l.asked (take l.name-index l.asked) (drop l.name-index l.asked) l.looked
