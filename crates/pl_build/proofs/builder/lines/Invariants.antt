use Rattle.std.proofs.Common.{◌≡◌, ◌++◌, map}
use Rattle.pl_build.specs.Grammar.{line}
use Rattle.pl_build.specs.Build as spec
use Rattle.pl_build.proofs.builder.lines.Given as goal

abbrev pub invariant-loop-text : goal.invariant-loop-text
invariant-loop-text l = l.lines.items ++ map line l.text-iterator ≡ spec.lines l.fn.recipe
