use Rattle.std.proofs.Common.{◌≡◌, ◌*◌, ◌++◌, [], take, drop}
use Rattle.std.specs.Prelude.{string_bytes}
use Rattle.pl_gen.specs.Lines.{def_lines}
use Rattle.pl_gen.proofs.recipes.push_defs.Given as goal

abbrev pub invariant-loop-turn : goal.invariant-loop-turn
invariant-loop-turn l = string_bytes l.out ++ def_lines (take l.turn l.functions) (8 * l.turn) (drop l.turn l.functions) ≡ string_bytes l.fn.out ++ def_lines [] 0 l.functions
