use Rattle.std.proofs.Common.{◌≡◌, ◌-◌}
use Rattle.pl_journal.specs.Reading.{rows_at}
use Rattle.pl_journal.proofs.LoopLaws.{with_rows}
use Rattle.pl_journal.proofs.reading.take_rows.Given as goal

abbrev pub invariant-loop : goal.invariant-loop
invariant-loop l = with_rows l.rows (rows_at (l.count - l.counter) l.rest) ≡ rows_at l.count l.bytes
