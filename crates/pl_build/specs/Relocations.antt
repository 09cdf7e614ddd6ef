-- The tables of relocations (System V gABI chapter 4, "Relocation").
use Rattle.std.specs.Prelude.{ℕ, Bool, ◌==◌, List, [], ◌∷◌, map, filter, position, Option, Some, None, if◌then◌else◌}
use Rattle.std.specs.List.{flat_map}
use Rattle.std.specs.Str.{bytes_eq}
use Rattle.pl_base.specs.Sums.{plus}
use Rattle.pl_elf.specs.declared.constants.TheConstants.{R_X86_64_RELATIVE}
use Rattle.pl_build.specs.declared.fields.Field.TheVariants.{Word, Xword}
use Rattle.pl_build.specs.declared.line.Relocation.{Relocation}
use Rattle.pl_build.specs.declared.line.SymbolLine.{SymbolLine}
use Rattle.pl_build.specs.declared.layout_plan.LayoutPlan.{LayoutPlan}
use Rattle.pl_build.specs.declared.relocations.Rela.{Rela}
use Rattle.pl_build.specs.Fields.{fields}
use Rattle.pl_build.specs.LayoutPlan.{addend_of, data_address, is_jump_slot, is_other}
use Rattle.pl_build.specs.RelocationLines.{is_no_symbol}

-- offset, info (the type in its low 32 bits, the symbol in the high ones), addend
unfoldable pub rela_bytes : Rela → List ℕ
rela_bytes r = fields (Xword r.offset ∷ Word r.kind ∷ Word r.symbol ∷ Xword r.addend ∷ [])

abbrev pub is_written_as : List ℕ → SymbolLine → Bool
is_written_as name s = bytes_eq s.written name

abbrev pub number_at : Option ℕ → ℕ
number_at None = 0
number_at (Some index) = plus index 1

-- the number of the symbol of a written name, 0 for `-`
unfoldable pub symbol_number : LayoutPlan → List ℕ → ℕ
symbol_number p name = if is_no_symbol name then 0 else number_at (position (is_written_as name) p.symbols)

unfoldable pub moved_addend : LayoutPlan → Relocation → ℕ
moved_addend p r = if r.kind == R_X86_64_RELATIVE then plus (data_address p.settings) (addend_of r.addend) else addend_of r.addend

unfoldable pub rela_of : LayoutPlan → Relocation → Rela
rela_of p r = record {
  offset = plus (data_address p.settings) r.offset;
  kind = r.kind;
  symbol = symbol_number p r.name;
  addend = moved_addend p r;
}

-- the relocations of jump slots, and all others
unfoldable pub jump_slots : LayoutPlan → List ℕ
jump_slots p = flat_map rela_bytes (map (rela_of p) (filter is_jump_slot p.relocations))

unfoldable pub others : LayoutPlan → List ℕ
others p = flat_map rela_bytes (map (rela_of p) (filter is_other p.relocations))
