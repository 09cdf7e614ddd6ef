use Rattle.std.proofs.Common.{◌≡◌, ◌++◌, drop}
use Rattle.std.specs.Prelude.{filter, map}
use Rattle.std.specs.List.{flat_map}
use Rattle.pl_build.specs.LayoutPlan.{is_jump_slot}
use Rattle.pl_build.specs.Relocations.{jump_slots, rela_bytes, rela_of}
use Rattle.pl_build.proofs.relocations.jump_slots.Given as goal

abbrev pub invariant-loop-relocation : goal.invariant-loop-relocation
invariant-loop-relocation l = l.out.items ++ flat_map rela_bytes (map (rela_of l.plan) (filter is_jump_slot (drop l.relocation-index l.relocations))) ≡ jump_slots l.plan
