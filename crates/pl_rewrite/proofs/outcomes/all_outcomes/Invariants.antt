use Rattle.std.proofs.Common.{◌≡◌, ◌+◌, length, drop}
use Rattle.std.specs.Vec.Iter.{into_iter_items, into_iter_len}
use Rattle.pl_rewrite.proofs.MadeRowLaws.{AllTo}
use Rattle.pl_rewrite.proofs.outcomes.all_outcomes.Given as goal

abbrev pub invariant-loop-cause : goal.invariant-loop-cause
invariant-loop-cause l =
    (length l.all.items ≡ length l.yielded)
    × AllTo l.files l.fn.causes l.fn.made.items l.all.items
    × (into_iter_items l.made ≡ drop (length l.yielded) l.fn.made.items)
    × (into_iter_len l.made + length l.yielded ≡ length l.fn.made.items)
