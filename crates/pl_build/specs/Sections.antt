-- The section header table (System V gABI chapter 4, "Sections").
use Rattle.std.specs.Prelude.{ℕ, ◌+◌, List, [], ◌∷◌, ◌++◌, length, map, if◌then◌else◌}
use Rattle.pl_base.specs.Sums.{plus}
use Rattle.pl_build.specs.declared.constants.TheConstants.{INTERP_OFFSET}
use Rattle.pl_build.specs.declared.fields.Field.{Field}
use Rattle.pl_build.specs.declared.fields.Field.TheVariants.{Word, Xword}
use Rattle.pl_build.specs.declared.roles.Role.{Role}
use Rattle.pl_build.specs.declared.roles.Role.TheVariants.{Interp, Dynsym, Verdef, Verneed, Data, Bss, Shstrtab}
use Rattle.pl_build.specs.declared.roles.PlacedSection.{PlacedSection}
use Rattle.pl_build.specs.declared.layout_plan.LayoutPlan.{LayoutPlan}
use Rattle.pl_build.specs.declared.sections.SectionRow.{SectionRow}
use Rattle.pl_build.specs.declared.string_table.StringTable.{StringTable}
use Rattle.pl_build.specs.Dynamic.{null_place}
use Rattle.pl_build.specs.Fields.{fields}
use Rattle.pl_build.specs.Layout.{place_at}
use Rattle.pl_build.specs.LayoutPlan.{data_address, has_interp}
use Rattle.pl_build.specs.Roles.{section_name, kind_of, flags_of, align_of, entsize_of, link_of, index_of}
use Rattle.pl_build.specs.Segments.{interp_bytes}
use Rattle.pl_build.specs.StringTable.{text_at}

abbrev pub first_fields : SectionRow → List Field
first_fields s = Word s.name ∷ Word s.kind ∷ Xword s.flags ∷ Xword s.addr ∷ Xword s.offset ∷ Xword s.size ∷ []

abbrev pub last_fields : SectionRow → List Field
last_fields s = Word s.link ∷ Word s.info ∷ Xword s.addralign ∷ Xword s.entsize ∷ []

unfoldable pub section_row_bytes : SectionRow → List ℕ
section_row_bytes s = fields (first_fields s) ++ fields (last_fields s)

-- the symbols' table says which of them is the first that is not local; those of versions how many records they have
unfoldable pub info_of : LayoutPlan → Role → ℕ
info_of p Dynsym = 1
info_of p Verdef = length p.versions + 1
info_of p Verneed = length p.files
info_of p _ = 0

unfoldable pub row_of : LayoutPlan → StringTable → PlacedSection → SectionRow
row_of p names place = record {
  name = text_at names (section_name place.role);
  kind = kind_of place.role;
  flags = flags_of place.role;
  addr = place.addr;
  offset = place.offset;
  size = place.size;
  link = index_of p.roles (link_of place.role);
  info = info_of p place.role;
  addralign = align_of place.role;
  entsize = entsize_of place.role;
}

-- ---- where the sections stand

unfoldable pub first_places : LayoutPlan → List PlacedSection
first_places p = if has_interp p.settings then null_place ∷ place_at p Interp INTERP_OFFSET (length interp_bytes) ∷ [] else null_place ∷ []

-- the data, the zeros behind it, and the names of the sections, where the data stands at an offset
unfoldable pub last_places : LayoutPlan → ℕ → ℕ → List PlacedSection
last_places p offset names_size =
    record { role = Data; addr = data_address p.settings; offset = offset; size = p.settings.data_size }
    ∷ record { role = Bss; addr = plus (data_address p.settings) p.settings.data_size; offset = 0; size = p.settings.bss }
    ∷ record { role = Shstrtab; addr = 0; offset = offset + p.settings.data_size; size = names_size }
    ∷ []

unfoldable pub section_rows : LayoutPlan → StringTable → List PlacedSection → List SectionRow
section_rows p names places = map (row_of p names) places
