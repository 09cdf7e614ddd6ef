-- The dynamic table (System V gABI chapter 5, "Dynamic Section").
use Rattle.std.specs.Prelude.{ℕ, ◌+◌, Bool, true, not, ◌&&◌, ◌==◌, List, [], ◌∷◌, ◌++◌, length, map, find, codes, if◌then◌else◌}
use Rattle.std.specs.List.{flat_map, range_with_len}
use Rattle.std.specs.Option.{unwrap_or}
use Rattle.pl_dyn.specs.declared.constants.TheConstants.{DT_NULL, DT_NEEDED, DT_PLTRELSZ, DT_HASH, DT_STRTAB, DT_SYMTAB, DT_RELA, DT_RELASZ, DT_RELAENT, DT_STRSZ, DT_SYMENT, DT_SYMBOLIC, DT_PLTREL, DT_DEBUG, DT_JMPREL, DT_BIND_NOW, DT_FLAGS, DT_GNU_HASH, DT_VERSYM, DT_FLAGS_1, DT_VERDEF, DT_VERDEFNUM, DT_VERNEED, DT_VERNEEDNUM, DT_RELRSZ, DT_RELR, DT_RELRENT, DF_BIND_NOW, DF_1_NOW, DF_1_PIE}
use Rattle.pl_dyn.specs.declared.tags.Tag.{Tag}
use Rattle.pl_sym.specs.declared.constants.TheConstants.{SYMBOL_SIZE}
use Rattle.pl_elf.specs.declared.constants.TheConstants.{RELA_SIZE, RELR_SIZE}
use Rattle.pl_build.specs.declared.fields.Field.TheVariants.{Xword}
use Rattle.pl_build.specs.declared.roles.Role.TheVariants.{Null}
use Rattle.pl_build.specs.declared.roles.PlacedSection.{PlacedSection}
use Rattle.pl_build.specs.declared.layout_plan.LayoutPlan.{LayoutPlan}
use Rattle.pl_build.specs.declared.recipe.Settings.{Settings}
use Rattle.pl_build.specs.Choices.{chosen}
use Rattle.pl_build.specs.Fields.{fields}
use Rattle.pl_build.specs.FileKinds.{is_program, is_pie}
use Rattle.pl_build.specs.Roles.{has_name}
use Rattle.pl_build.specs.StringTable.{text_at}

unfoldable pub tag_bytes : Tag → List ℕ
tag_bytes tag = fields (Xword tag.number ∷ Xword tag.value ∷ [])

abbrev pub tag : ℕ → ℕ → Tag
tag number value = record { number = number; value = value }

-- ---- where a section stands

abbrev pub is_at : List ℕ → PlacedSection → Bool
is_at name place = has_name name place.role

-- the null section's place, of no bytes
abbrev pub null_place : PlacedSection
null_place = record { role = Null; addr = 0; offset = 0; size = 0 }

-- a section of no bytes is not there
unfoldable pub place_of : List PlacedSection → List ℕ → PlacedSection
place_of places name = unwrap_or (find (is_at name) places) null_place

abbrev pub is_there : PlacedSection → Bool
is_there place = not (place.size == 0)

-- ---- the tags

unfoldable pub needed_tags : LayoutPlan → List Tag
needed_tags p = map (λ name. tag DT_NEEDED (text_at p.strings name)) p.needed

unfoldable pub table_tags : LayoutPlan → List PlacedSection → List Tag
table_tags p places =
    let hash = place_of places (codes ".hash") in
    let gnu_hash = place_of places (codes ".gnu.hash") in
    let strings = place_of places (codes ".dynstr") in
    let symbols = place_of places (codes ".dynsym") in
    chosen (
    (is_there hash, tag DT_HASH hash.addr) ∷ (is_there gnu_hash, tag DT_GNU_HASH gnu_hash.addr)
    ∷ (true, tag DT_STRTAB strings.addr) ∷ (true, tag DT_SYMTAB symbols.addr) ∷ (true, tag DT_STRSZ strings.size)
    ∷ (true, tag DT_SYMENT SYMBOL_SIZE) ∷ (p.settings.symbolic, tag DT_SYMBOLIC 0) ∷ [])

unfoldable pub relocation_tags : List PlacedSection → List Tag
relocation_tags places =
    let slots = place_of places (codes ".rela.plt") in
    let others = place_of places (codes ".rela.dyn") in
    chosen (
    (is_there slots, tag DT_PLTRELSZ slots.size) ∷ (is_there slots, tag DT_PLTREL DT_RELA) ∷ (is_there slots, tag DT_JMPREL slots.addr)
    ∷ (is_there others, tag DT_RELA others.addr) ∷ (is_there others, tag DT_RELASZ others.size) ∷ (is_there others, tag DT_RELAENT RELA_SIZE) ∷ [])

unfoldable pub packed_tags : List PlacedSection → List Tag
packed_tags places =
    let packed = place_of places (codes ".relr.dyn") in
    chosen (
    (is_there packed, tag DT_RELR packed.addr) ∷ (is_there packed, tag DT_RELRSZ packed.size) ∷ (is_there packed, tag DT_RELRENT RELR_SIZE) ∷ [])

-- the base counts among the versions that are defined
unfoldable pub version_tags : LayoutPlan → List PlacedSection → List Tag
version_tags p places =
    let words = place_of places (codes ".gnu.version") in
    let defined = place_of places (codes ".gnu.version_d") in
    let needed = place_of places (codes ".gnu.version_r") in
    chosen (
    (is_there words, tag DT_VERSYM words.addr)
    ∷ (is_there defined, tag DT_VERDEF defined.addr) ∷ (is_there defined, tag DT_VERDEFNUM (length p.versions + 1))
    ∷ (is_there needed, tag DT_VERNEED needed.addr) ∷ (is_there needed, tag DT_VERNEEDNUM (length p.files)) ∷ [])

-- a position-independent program says that it is one
unfoldable pub flags_1 : Settings → ℕ
flags_1 s = (if s.usual then DF_1_NOW else 0) + (if is_pie s.kind then DF_1_PIE else 0)

unfoldable pub usual_tags : LayoutPlan → List Tag
usual_tags p =
    let usual = p.settings.usual in
    chosen (
    (usual && is_program p.settings.kind, tag DT_DEBUG 0) ∷ (usual, tag DT_BIND_NOW 0)
    ∷ (usual, tag DT_FLAGS DF_BIND_NOW) ∷ (not (flags_1 p.settings == 0), tag DT_FLAGS_1 (flags_1 p.settings)) ∷ [])

-- the entry that ends the table, and the spare ones behind it
abbrev pub end_tag : Tag
end_tag = tag DT_NULL 0

unfoldable pub spare_tags : LayoutPlan → List Tag
spare_tags p = map (λ k. end_tag) (range_with_len 0 p.settings.spare)

unfoldable pub dynamic_table : LayoutPlan → List PlacedSection → List ℕ
dynamic_table p places =
    flat_map tag_bytes (needed_tags p)
    ++ flat_map tag_bytes (table_tags p places)
    ++ flat_map tag_bytes (relocation_tags places)
    ++ flat_map tag_bytes (packed_tags places)
    ++ flat_map tag_bytes (version_tags p places)
    ++ flat_map tag_bytes (usual_tags p)
    ++ flat_map tag_bytes (end_tag ∷ [])
    ++ flat_map tag_bytes (spare_tags p)
