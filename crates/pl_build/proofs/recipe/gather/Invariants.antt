use Rattle.std.proofs.Common.{◌≡◌, length, take}
use Rattle.std.specs.List.{fold}
use Rattle.pl_build.specs.Recipe.{empty, pushed}
use Rattle.pl_build.proofs.recipe.gather.Given as goal

abbrev pub invariant-loop-line : goal.invariant-loop-line
invariant-loop-line l = l.recipe ≡ fold pushed empty (take (length l.yielded) l.fn.lines.items)
