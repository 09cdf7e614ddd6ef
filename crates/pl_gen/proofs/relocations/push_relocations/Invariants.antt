use Rattle.std.proofs.Common.{◌≡◌, ◌+◌, ◌*◌, ◌++◌, drop}
use Rattle.std.specs.Prelude.{string_bytes}
use Rattle.pl_gen.specs.Lines.{relocations}
use Rattle.pl_gen.proofs.relocations.push_relocations.Given as goal

abbrev pub invariant-loop-turn : goal.invariant-loop-turn
invariant-loop-turn l = string_bytes l.out ++ relocations l.known.items (l.place + 8 * l.turn) (drop (2 * l.turn) l.words) ≡ string_bytes l.fn.out ++ relocations l.fn.functions.items l.place l.words
