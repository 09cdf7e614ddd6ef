use Rattle.std.proofs.Common.{◌≡◌, ◌≤◌, ◌<◌, ◌+◌, ◌^◌, false, length}
use Rattle.std.specs.Prelude.{reverse}
use Rattle.std.specs.Fmt.{decimal, digits_onto}
use Rattle.pl_texts.proofs.undone.digits.Given as goal

abbrev pub invariant-loop-left : goal.invariant-loop-left
invariant-loop-left l = (1 ≤ l.room) × (l.left < 10 ^ l.room) × (length l.line.items + l.room ≡ 20) × (digits_onto (l.room + 44) 10 false l.left (reverse l.line.items) ≡ decimal l.number)

abbrev pub decreases-loop-left : goal.decreases-loop-left
decreases-loop-left l = l.left
