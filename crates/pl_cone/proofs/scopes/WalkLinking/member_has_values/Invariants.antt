use Rattle.std.proofs.Common.{◌≡◌, drop}
use Rattle.pl_base.specs.Each.{run}
use Rattle.pl_cone.specs.Links.{value_at}
use Rattle.pl_cone.proofs.scopes.WalkLinking.member_has_values.Given as goal

abbrev pub invariant-loop-index : goal.invariant-loop-index
invariant-loop-index l = run (λ u i. value_at l.self l.member l.relocs i) tt (drop l.index-index l.remaining) ≡ run (λ u i. value_at l.self l.member l.relocs i) tt l.remaining
