-- The rows of a cache that wants keep where no two slots may overlap.
use Rattle.std.specs.Prelude.{List, [], ◌∷◌, ◌++◌, Option, Some, None, fold, if◌then◌else◌}
use Rattle.std.specs.List.{list_all}
use Rattle.pl_elf.specs.declared.range.Range.{Range}
use Rattle.pl_slots.specs.declared.slot.Want.{Want}
use Rattle.pl_slots.specs.declared.slot.Slot.{Slot}
use Rattle.pl_slots.specs.Apart.{is_beside}
use Rattle.pl_slots.specs.Plan.{kept_row}

-- a want's row, if there is one, and it meets no row that was kept before
abbrev pub with_disjoint_row : List Slot → Option Slot → List Slot
with_disjoint_row kept None = kept
with_disjoint_row kept (Some row) = if list_all (is_beside row) kept then kept ++ row ∷ [] else kept

unfoldable pub disjoint : List Slot → List Want → Range → List Slot
disjoint rows wants region = fold (λ kept want. with_disjoint_row kept (kept_row rows region want)) [] wants
