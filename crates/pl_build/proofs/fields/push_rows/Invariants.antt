use Rattle.std.proofs.Common.{◌≡◌, ◌++◌, drop}
use Rattle.std.specs.List.{flat_map}
use Rattle.pl_build.proofs.fields.push_rows.Given as goal

abbrev pub invariant-loop-row : goal.invariant-loop-row
invariant-loop-row g l = l.out.items ++ flat_map g.R.Row.bytes (drop l.row-index l.rows) ≡ l.initial.out.items ++ flat_map g.R.Row.bytes l.rows
