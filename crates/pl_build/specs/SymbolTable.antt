-- The symbol table (System V gABI chapter 4, "Symbol Table").
use Rattle.std.specs.Prelude.{ℕ, ◌+◌, ◌*◌, Bool, not, ◌&&◌, ◌||◌, ◌==◌, nat_lt, List, [], ◌∷◌, ◌++◌, map, codes, if◌then◌else◌}
use Rattle.std.specs.List.{flat_map}
use Rattle.pl_base.specs.Sums.{plus}
use Rattle.pl_sym.specs.declared.constants.TheConstants.{SHN_UNDEF, SHN_ABS, STT_NOTYPE, STT_TLS}
use Rattle.pl_build.specs.declared.fields.Field.TheVariants.{Byte, Half, Word, Xword}
use Rattle.pl_build.specs.declared.line.SymbolLine.{SymbolLine}
use Rattle.pl_build.specs.declared.layout_plan.LayoutPlan.{LayoutPlan}
use Rattle.pl_build.specs.declared.symbol_table.SymbolEntry.{SymbolEntry}
use Rattle.pl_build.specs.Fields.{fields}
use Rattle.pl_build.specs.LayoutPlan.{data_address}
use Rattle.pl_build.specs.Roles.{index_of}
use Rattle.pl_build.specs.StringTable.{text_at}

-- name, info (the binding in its high four bits), other, section, value, size
unfoldable pub entry_bytes : SymbolEntry → List ℕ
entry_bytes e = fields (Word e.name ∷ Byte (e.bind * 16 + e.kind) ∷ Byte e.visibility ∷ Half e.section ∷ Xword e.value ∷ Xword e.size ∷ [])

-- a value that is no address
abbrev pub has_no_address : SymbolLine → Bool
has_no_address s = s.defined && (s.kind == STT_NOTYPE || s.kind == STT_TLS)

unfoldable pub section_of : LayoutPlan → SymbolLine → ℕ
section_of p s =
    if not s.defined then SHN_UNDEF
    else if s.kind == STT_NOTYPE then SHN_ABS
    else if s.kind == STT_TLS || nat_lt s.offset p.settings.data_size then index_of p.roles (codes ".data")
    else index_of p.roles (codes ".bss")

unfoldable pub value_of : LayoutPlan → SymbolLine → ℕ
value_of p s =
    if not s.placed then 0
    else if has_no_address s then s.offset
    else plus (data_address p.settings) s.offset

unfoldable pub entry_of : LayoutPlan → SymbolLine → SymbolEntry
entry_of p s = record {
  name = text_at p.strings s.name;
  bind = s.bind;
  kind = s.kind;
  visibility = s.visibility;
  section = section_of p s;
  value = value_of p s;
  size = s.size;
}

abbrev pub null_entry : SymbolEntry
null_entry = record { name = 0; bind = 0; kind = 0; visibility = 0; section = 0; value = 0; size = 0 }

unfoldable pub symbol_table : LayoutPlan → List ℕ
symbol_table p = entry_bytes null_entry ++ flat_map entry_bytes (map (entry_of p) p.symbols)
