use Rattle.std.proofs.Common.{◌≡◌, ◌++◌, drop}
use Rattle.pl_build.specs.Choices.{chosen}
use Rattle.pl_build.proofs.choices.push_chosen.Given as goal

abbrev pub invariant-loop-choice : goal.invariant-loop-choice
invariant-loop-choice g l = l.out.items ++ chosen (drop l.choice-index l.choices) ≡ l.initial.out.items ++ chosen l.choices
