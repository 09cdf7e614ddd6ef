use Rattle.std.proofs.Common.{◌≡◌, ◌%◌, map, take}
use Rattle.pl_gen.proofs.draws.remainders.Given as goal

abbrev pub invariant-loop-word : goal.invariant-loop-word
invariant-loop-word l = l.all.items ≡ map (λ word. word % l.number) (take l.word-index l.words)
