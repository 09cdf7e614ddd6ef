use Rattle.std.proofs.Common.{◌≡◌, drop}
use Rattle.pl_place.specs.Numbering.{numbered}
use Rattle.pl_place.proofs.numbering.numbered.Given as goal

abbrev pub invariant-loop-hole : goal.invariant-loop-hole
invariant-loop-hole l = numbered l.span l.align (drop l.hole-index l.holes) l.left ≡ numbered l.span l.align l.holes l.fn.number
