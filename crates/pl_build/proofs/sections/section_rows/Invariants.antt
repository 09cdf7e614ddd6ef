use Rattle.std.proofs.Common.{◌≡◌, ◌++◌, drop, map}
use Rattle.pl_build.specs.Sections.{row_of, section_rows}
use Rattle.pl_build.proofs.sections.section_rows.Given as goal

abbrev pub invariant-loop-place : goal.invariant-loop-place
invariant-loop-place l = l.rows.items ++ map (row_of l.plan l.names) (drop l.place-index l.places) ≡ section_rows l.plan l.names l.places
