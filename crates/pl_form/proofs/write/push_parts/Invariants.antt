use Rattle.std.proofs.Common.{◌≡◌, drop}
use Rattle.pl_form.specs.Parts.{joined}
use Rattle.pl_form.proofs.write.push_parts.Given as goal

abbrev pub invariant-loop-part : goal.invariant-loop-part
invariant-loop-part l = joined l.file.items (drop l.part-index l.next) ≡ joined l.initial.file.items l.next
