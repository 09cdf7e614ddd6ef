use Rattle.std.proofs.Common.{◌≡◌, take}
use Rattle.pl_rewrite.specs.Ranges.{ranges_of}
use Rattle.pl_rewrite.proofs.ranges.given_ranges.Given as goal

abbrev pub invariant-loop-meaning : goal.invariant-loop-meaning
invariant-loop-meaning l = l.ranges.items ≡ ranges_of (take l.meaning-index l.meanings)
