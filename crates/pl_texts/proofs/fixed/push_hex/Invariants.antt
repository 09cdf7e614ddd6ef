use Rattle.std.proofs.Common.{◌≡◌, ◌≤◌, ◌+◌, ◌++◌, length}
use Rattle.pl_base.specs.Digits.{hex_digits}
use Rattle.pl_texts.proofs.fixed.push_hex.Given as goal

abbrev pub invariant-loop-k : goal.invariant-loop-k
invariant-loop-k l = (l.k ≤ 16) × (length l.line.items + l.k ≡ length l.fn.line.items + 16) × (l.line.items ++ hex_digits l.k l.number ≡ l.fn.line.items ++ hex_digits 16 l.number)

abbrev pub decreases-loop-k : goal.decreases-loop-k
decreases-loop-k l = l.k
