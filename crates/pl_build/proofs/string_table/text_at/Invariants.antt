use Rattle.std.proofs.Common.{◌≡◌, drop}
use Rattle.std.specs.Prelude.{find}
use Rattle.pl_build.specs.StringTable.{at_of, has_text, text_at}
use Rattle.pl_build.proofs.string_table.text_at.Given as goal

abbrev pub invariant-loop-entry : goal.invariant-loop-entry
invariant-loop-entry l = at_of (find (has_text l.text) (drop l.entry-index l.entries)) ≡ text_at l.strings l.text
