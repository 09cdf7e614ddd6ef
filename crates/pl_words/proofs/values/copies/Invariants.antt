use Rattle.std.proofs.Common.{◌≡◌, ◌++◌, drop, map}
use Rattle.pl_words.proofs.values.copies.Given as goal

abbrev pub invariant-loop-name : goal.invariant-loop-name
invariant-loop-name l = l.copies ++ map (λ s. s.now) (drop l.name-index l.names) ≡ map (λ s. s.now) l.names
