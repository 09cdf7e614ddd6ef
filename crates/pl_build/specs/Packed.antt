-- The table of packed relative relocations (gABI, "Relative Relocation Table": SHT_RELR, DT_RELR).
use Rattle.std.specs.Prelude.{ℕ, List, [], map, if◌then◌else◌}
use Rattle.pl_base.specs.Sums.{plus}
use Rattle.pl_relr.specs.Pack.{is_packable, packed}
use Rattle.pl_build.specs.declared.line.PackedWord.{PackedWord}
use Rattle.pl_build.specs.declared.layout_plan.LayoutPlan.{LayoutPlan}
use Rattle.pl_build.specs.declared.recipe.Settings.{Settings}
use Rattle.pl_build.specs.LayoutPlan.{data_address}

-- the address of a packed word
abbrev pub packed_place : Settings → PackedWord → ℕ
packed_place s w = plus (data_address s) w.offset

-- the table of their addresses; words that cannot be packed have faults of their own
unfoldable pub packed_table : LayoutPlan → List ℕ
packed_table p =
    let places = map (packed_place p.settings) p.packed in
    if is_packable places then packed places else []
