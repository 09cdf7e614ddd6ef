-- The tables, one after the other from their offset on, each at a multiple of their alignment.
use Rattle.std.specs.Prelude.{ℕ, ◌+◌, ◌-◌, ◌==◌, List, [], ◌∷◌, ◌++◌, length, replicate, nat_lt, Result, Ok, Err, if◌then◌else◌}
use Rattle.pl_base.specs.Each.{run}
use Rattle.pl_base.specs.Sums.{plus, round_up}
use Rattle.pl_build.specs.declared.constants.TheConstants.{TABLES_OFFSET, TABLE_ALIGN, MAX_TABLES}
use Rattle.pl_build.specs.declared.checks.Fault.{Fault}
use Rattle.pl_build.specs.declared.roles.Role.{Role}
use Rattle.pl_build.specs.declared.roles.Role.TheVariants.{Hash, GnuHash, Dynsym, Dynstr, Versym, Verdef, Verneed, RelaDyn, RelaPlt, RelrDyn, Dynamic}
use Rattle.pl_build.specs.declared.roles.PlacedSection.{PlacedSection}
use Rattle.pl_build.specs.declared.layout_plan.LayoutPlan.{LayoutPlan}
use Rattle.pl_build.specs.declared.layout.Tables.{Tables}
use Rattle.pl_build.specs.LayoutPlan.{base_of}
use Rattle.pl_build.specs.SymbolTable.{symbol_table}
use Rattle.pl_build.specs.Versions.{version_words, verdefs, verneeds}
use Rattle.pl_build.specs.HashTables.{sysv_table, gnu_table}
use Rattle.pl_build.specs.Relocations.{jump_slots, others}
use Rattle.pl_build.specs.Packed.{packed_table}
use Rattle.pl_build.specs.Dynamic.{dynamic_table}

-- the file or its tables would be too large
abbrev pub too_large : Fault
too_large = record { line = 0; kind = 5 }

-- a table's bytes. The dynamic table is the last, and names the places of those before it
unfoldable pub contents : LayoutPlan → List PlacedSection → Role → List ℕ
contents p places Hash = sysv_table p
contents p places GnuHash = gnu_table p
contents p places Dynsym = symbol_table p
contents p places Dynstr = p.strings.bytes
contents p places Versym = version_words p
contents p places Verdef = verdefs p
contents p places Verneed = verneeds p
contents p places RelaDyn = others p
contents p places RelaPlt = jump_slots p
contents p places RelrDyn = packed_table p
contents p places Dynamic = dynamic_table p places
contents p places _ = []

abbrev pub no_tables : Tables
no_tables = record { bytes = []; places = [] }

-- zeros up to an offset
unfoldable pub filled_to : ℕ → List ℕ → List ℕ
filled_to offset bytes = bytes ++ replicate (offset - length bytes) 0

-- zeros up to the next multiple of the tables' alignment
unfoldable pub aligned : List ℕ → List ℕ
aligned bytes = filled_to (round_up (length bytes) TABLE_ALIGN) bytes

unfoldable pub place_at : LayoutPlan → Role → ℕ → ℕ → PlacedSection
place_at p role offset size = record { role = role; addr = plus (base_of p.settings) offset; offset = offset; size = size }

-- one table more
unfoldable pub table_added : LayoutPlan → Tables → Role → List ℕ → Tables
table_added p t role content = record {
  bytes = aligned t.bytes ++ content;
  places = t.places ++ place_at p role (TABLES_OFFSET + length (aligned t.bytes)) (length content) ∷ [];
}

-- where the tables end
abbrev pub end_of : Tables → ℕ
end_of t = TABLES_OFFSET + length t.bytes

abbrev pub in_limit : Tables → Result Tables Fault
in_limit t = if nat_lt MAX_TABLES (end_of t) then Err too_large else Ok t

-- a section of no contents is no table
unfoldable pub role_added : LayoutPlan → Tables → Role → Result Tables Fault
role_added p t role =
    let content = contents p t.places role in
    if length content == 0 then Ok t else in_limit (table_added p t role content)

unfoldable pub tables : LayoutPlan → Result Tables Fault
tables p = run (role_added p) no_tables p.roles
