use Rattle.std.proofs.Common.{◌≡◌, ◌++◌, [], take, drop}
use Rattle.std.specs.Prelude.{string_bytes}
use Rattle.pl_gen.specs.Lines.{needs_lines}
use Rattle.pl_gen.proofs.recipes.push_needs.Given as goal

abbrev pub invariant-loop-turn : goal.invariant-loop-turn
invariant-loop-turn l = string_bytes l.out ++ needs_lines (take l.turn l.libraries) (drop l.turn l.libraries) ≡ string_bytes l.fn.out ++ needs_lines [] l.libraries
