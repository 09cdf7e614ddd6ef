use Rattle.std.proofs.Common.{◌≡◌, take, false}
use Rattle.std.specs.List.{list_any}
use Rattle.pl_pie.specs.Words.{symtab_meets}
use Rattle.pl_pie.proofs.meets.any_symtab_meets.Given as goal

abbrev pub invariant-loop-range : goal.invariant-loop-range
invariant-loop-range l = list_any (symtab_meets l.windows l.bytes) (take l.range-index l.symtabs) ≡ false
