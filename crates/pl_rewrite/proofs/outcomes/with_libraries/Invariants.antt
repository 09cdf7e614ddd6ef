use Rattle.std.proofs.Common.{◌≡◌, ◌+◌, length, drop}
use Rattle.std.specs.Vec.Iter.{into_iter_items, into_iter_len}
use Rattle.pl_rewrite.proofs.MadeRowLaws.{MadeTo}
use Rattle.pl_rewrite.proofs.outcomes.with_libraries.Given as goal

abbrev pub invariant-loop-one : goal.invariant-loop-one
invariant-loop-one l =
    (length l.all.items ≡ length l.yielded)
    × MadeTo l.numbered l.stale l.all.items
    × (into_iter_items l.programs ≡ drop (length l.yielded) l.fn.programs.items)
    × (into_iter_len l.programs + length l.yielded ≡ length l.fn.programs.items)
