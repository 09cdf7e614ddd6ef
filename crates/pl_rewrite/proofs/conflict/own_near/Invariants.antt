use Rattle.std.proofs.Common.{◌≡◌, take}
use Rattle.std.specs.Prelude.{filter}
use Rattle.pl_rewrite.specs.RemainingRows.{is_near_word}
use Rattle.pl_rewrite.proofs.conflict.own_near.Given as goal

abbrev pub invariant-loop-meaning : goal.invariant-loop-meaning
invariant-loop-meaning l = l.near.items ≡ filter (is_near_word l.ranges) (take l.meaning-index l.own)
