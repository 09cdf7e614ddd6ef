use Rattle.std.proofs.Common.{◌≡◌, drop, map}
use Rattle.pl_words.specs.Found.{is_among}
use Rattle.pl_words.proofs.found.is_among.Given as goal

abbrev pub invariant-loop-other : goal.invariant-loop-other
invariant-loop-other l = is_among (map (λ s. s.now) (drop l.other-index l.names)) l.name ≡ is_among (map (λ s. s.now) l.names) l.name
