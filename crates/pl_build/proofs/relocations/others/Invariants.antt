use Rattle.std.proofs.Common.{◌≡◌, ◌++◌, drop}
use Rattle.std.specs.Prelude.{filter, map}
use Rattle.std.specs.List.{flat_map}
use Rattle.pl_build.specs.LayoutPlan.{is_other}
use Rattle.pl_build.specs.Relocations.{others, rela_bytes, rela_of}
use Rattle.pl_build.proofs.relocations.others.Given as goal

abbrev pub invariant-loop-relocation : goal.invariant-loop-relocation
invariant-loop-relocation l = l.out.items ++ flat_map rela_bytes (map (rela_of l.plan) (filter is_other (drop l.relocation-index l.relocations))) ≡ others l.plan
