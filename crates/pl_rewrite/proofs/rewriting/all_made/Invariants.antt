use Rattle.std.proofs.Common.{◌≡◌, ◌+◌, [], length, drop}
use Rattle.std.specs.Prelude.{take}
use Rattle.std.specs.Vec.Iter.{into_iter_items, into_iter_len}
use Rattle.pl_rewrite.specs.Outcomes.{all_made}
use Rattle.pl_rewrite.proofs.rewriting.all_made.Given as goal

abbrev pub invariant-loop-taken : goal.invariant-loop-taken
invariant-loop-taken l =
    (l.all ≡ all_made (take (length l.yielded) l.fn.files) (take (length l.yielded) l.fn.outcomes.items))
    × (into_iter_items l.outcomes ≡ drop (length l.yielded) l.fn.outcomes.items)
    × (into_iter_len l.outcomes + length l.yielded ≡ length l.fn.outcomes.items)
