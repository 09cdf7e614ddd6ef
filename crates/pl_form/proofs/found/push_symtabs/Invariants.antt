use Rattle.std.proofs.Common.{◌≡◌, ◌++◌, drop}
use Rattle.pl_object.specs.Tables.{symtab_windows}
use Rattle.pl_form.specs.Found.{symtab_tables}
use Rattle.pl_form.proofs.found.push_symtabs.Given as goal

abbrev pub invariant-loop-section : goal.invariant-loop-section
invariant-loop-section l = l.all ++ symtab_tables (symtab_windows (drop l.section-index l.sections)) ≡ l.initial.all ++ symtab_tables (symtab_windows l.sections)
