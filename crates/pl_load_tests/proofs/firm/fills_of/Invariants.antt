use Rattle.std.proofs.Common.{◌≡◌, ◌++◌, drop}
use Rattle.std.specs.Prelude.{map, filter}
use Rattle.pl_form.specs.Words.{fill_window, has_place}
use Rattle.pl_object.specs.Relocations.{places}
use Rattle.pl_load_tests.proofs.firm.fills_of.Given as goal

abbrev pub invariant-loop-reloc : goal.invariant-loop-reloc
invariant-loop-reloc l = map fill_window l.fills.items ++ places (filter has_place (drop l.reloc-index l.relocations)) ≡ places (filter has_place l.relocations)
