use Rattle.std.proofs.Common.{◌≡◌, drop, map, take}
use Rattle.std.specs.List.{AllZip}
use Rattle.pl_value.specs.Definers.{IsSought}
use Rattle.pl_value.specs.Meanings.{row}
use Rattle.pl_value.specs.Values.{reference}
use Rattle.pl_cone.specs.Links.{objects_of, rows_have_in}
use Rattle.pl_cone.proofs.scopes.WalkLinking.first_found.Given as goal

abbrev pub invariant-loop-reloc : goal.invariant-loop-reloc
invariant-loop-reloc l = record {
  found : AllZip (λ r f. IsSought (objects_of l.self) (reference 0 r) f) (take l.reloc-index l.relocs) l.all;
  values : rows_have_in l.self (drop l.reloc-index (map (row 0) l.relocs)) ≡ rows_have_in l.self (map (row 0) l.relocs);
}
