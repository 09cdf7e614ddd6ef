-- The relocations of a built file.
use Rattle.std.specs.Prelude.{◌≡◌, ◌<◌, ◌+◌, ◌^◌, false, ◌==◌, List, ◌∷◌, ◌++◌, length, map, filter, Ok}
use Rattle.pl_base.specs.Windows.{Window, AllIn}
use Rattle.pl_elf.specs.declared.constants.TheConstants.{ET_EXEC}
use Rattle.pl_sym.specs.declared.symbol.Symbol as read
use Rattle.pl_object.specs.PlaceClauses.{check_relocs, misplaced_copy}
use Rattle.pl_object.specs.Relocations.{relocs}
use Rattle.pl_object.specs.SymbolClauses.{has_ifunc}
use Rattle.pl_object.specs.Tables.{sections_window}
use Rattle.pl_object.specs.declared.reloc.Reloc.{Reloc}
use Rattle.pl_build.specs.declared.layout.Tables.{Tables}
use Rattle.pl_build.specs.declared.line.Relocation.{Relocation}
use Rattle.pl_build.specs.declared.layout_plan.LayoutPlan.{LayoutPlan}
use Rattle.pl_build.specs.declared.recipe.Recipe.{Recipe}
use Rattle.pl_build.specs.Layout.{end_of, tables}
use Rattle.pl_build.specs.LayoutPlan.{plan_of, is_jump_slot, is_other}
use Rattle.pl_build.specs.Relocations.{rela_of, others, jump_slots}
use Rattle.law_demo.specs.Modest.{IsModest}
use Rattle.law_demo.specs.Plain.{IsPlain}
use Rattle.law_demo.specs.Planned.{planned_header, planned_segments}
use Rattle.law_demo.specs.Rows.{reloc_of}
use Rattle.law_demo.specs.Symbols.{null_symbol, planned_symbol}

-- the symbols that are read of a plan
abbrev pub planned_symbols : LayoutPlan → List read.Symbol
planned_symbols p = null_symbol ∷ map (planned_symbol p) p.symbols

-- relocations of a recipe as they are read
unfoldable pub read_as : LayoutPlan → List Relocation → List Reloc
read_as p rs = map (reloc_of (planned_symbols p)) (map (rela_of p) rs)

-- those of both tables
unfoldable pub planned_relocs : LayoutPlan → List Reloc
planned_relocs p = read_as p (filter is_other p.relocations) ++ read_as p (filter is_jump_slot p.relocations)

-- each table of relocations is read as its relocations
pub record RowsAreRead (p : LayoutPlan) : Type 0 where
  pub others : relocs (planned_symbols p) (others p) ≡ read_as p (filter is_other p.relocations)
  pub slots : relocs (planned_symbols p) (jump_slots p) ≡ read_as p (filter is_jump_slot p.relocations)

abbrev pub PlannedRelocsAreRead : Type 0
PlannedRelocsAreRead = (r : Recipe) → IsModest r → length (plan_of r).symbols + 1 < 2 ^ 32 → RowsAreRead (plan_of r)

-- of a modest recipe, beside any windows of the file that end where the tables do
pub record AreTaken (p : LayoutPlan) (t : Tables) (windows : List Window) : Type 0 where
  -- clauses 23 to 27
  pub places : check_relocs ((planned_header p t).kind == ET_EXEC) (planned_segments p t) (sections_window (planned_header p t) ∷ windows) (length (planned_symbols p)) 0 (planned_relocs p) ≡ Ok tt
  -- 28 and 29
  pub functions : has_ifunc (planned_symbols p) ≡ false
  pub copies : misplaced_copy ((planned_header p t).kind == ET_EXEC) (planned_relocs p) ≡ false

abbrev pub PlannedRelocsAreTaken : Type 0
PlannedRelocsAreTaken =
    (r : Recipe) (t : Tables) (windows : List Window) → IsPlain r → IsModest r → tables (plan_of r) ≡ Ok t → length (plan_of r).symbols + 1 < 2 ^ 32 → AllIn (end_of t) windows → AreTaken (plan_of r) t windows
