-- The section header table behind the data and the names of the sections.
use Rattle.std.specs.Prelude.{ℕ, List, length}
use Rattle.std.specs.List.{flat_map}
use Rattle.pl_build.specs.declared.layout.Tables.{Tables}
use Rattle.pl_build.specs.declared.layout_plan.LayoutPlan.{LayoutPlan}
use Rattle.pl_build.specs.declared.string_table.StringTable.{StringTable}
use Rattle.pl_build.specs.File.{places_of}
use Rattle.pl_build.specs.Sections.{section_row_bytes, section_rows}
use Rattle.pl_build.specs.Segments.{data_offset}

-- where the tables end at an offset
abbrev pub section_headers : LayoutPlan → Tables → ℕ → StringTable → List ℕ
section_headers p t tables_end names =
    flat_map section_row_bytes (section_rows p names (places_of p t (data_offset tables_end) (length names.bytes)))
