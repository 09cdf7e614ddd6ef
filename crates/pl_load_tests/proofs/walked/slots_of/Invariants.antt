use Rattle.std.proofs.Common.{◌≡◌, ◌++◌, drop, map}
use Rattle.pl_load_tests.proofs.walked.slots_of.Given as goal

abbrev pub invariant-loop-original : goal.invariant-loop-original
invariant-loop-original l = map (λ s. s.span) l.slots.items ++ map (λ f. f.object.span) (drop l.original-index l.order) ≡ map (λ f. f.object.span) l.order
