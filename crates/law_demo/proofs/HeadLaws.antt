-- The header, the program header table and the section header table of a built file are read as its plan says.
use Rattle.std.proofs.Common.{◌≡◌, ℕ, ◌+◌, ◌*◌, ◌^◌, ◌<◌, ◌≤◌, Bool, true, false, List, [], ◌∷◌, ◌++◌, length, map, Option, Some, None, Ok, refl, sym, ap, subst, ◌∙◌, length-append, arith, inl, inr}
use Rattle.std.specs.Prelude.{◌&&◌, nat_le, nat_lt, codes, filter, fold}
use Rattle.std.specs.List.{AllByRecursion, flat_map, position_or_len, range_with_len}
use Rattle.std.proofs.lemmas.Bool.{cases_Bool, and_parts}
use Rattle.std.proofs.lemmas.Bool.Decides.{nat_tests}
use Rattle.std.proofs.lemmas.List.{append-nil, length-map, map-append, take_at}
use Rattle.pl_base.specs.Bytes.{part}
use Rattle.pl_base.proofs.SumLaws.{plus_below, round_up-near}
use Rattle.pl_elf.specs.declared.section.Section.{Section}
use Rattle.pl_elf.specs.declared.segment.Segment.{Segment}
use Rattle.pl_elf.specs.Headers as elf
use Rattle.pl_elf.specs.Written as written
use Rattle.pl_elf.proofs.WrittenLaws.{header_read, segment_read, section_read}
use Rattle.pl_form.proofs.HeadLaws.{header_part, segment_part, section_part, length-segment, length-section}
use Rattle.pl_build.specs.declared.layout.Tables.{Tables}
use Rattle.pl_build.specs.declared.layout_plan.LayoutPlan.{LayoutPlan}
use Rattle.pl_build.specs.declared.recipe.Recipe.{Recipe}
use Rattle.pl_build.specs.declared.recipe.Settings.{Settings}
use Rattle.pl_build.specs.declared.roles.PlacedSection.{PlacedSection}
use Rattle.pl_build.specs.declared.roles.Role.{Role}
use Rattle.pl_build.specs.declared.roles.Role.TheVariants.{Null, Interp, Hash, GnuHash, Dynsym, Dynstr, Versym, Verdef, Verneed, RelaDyn, RelaPlt, RelrDyn, Dynamic, Data, Bss, Shstrtab}
use Rattle.pl_build.specs.declared.sections.SectionRow.{SectionRow}
use Rattle.pl_build.specs.declared.string_table.StringTable.{StringTable}
use Rattle.pl_build.specs.Choices.{chosen}
use Rattle.pl_build.specs.Dynamic.{place_of, null_place, is_there, is_at}
use Rattle.pl_build.specs.Fields.{fields}
use Rattle.pl_build.specs.File.{ident, type_of, entry_or_base, places_of, sections_offset, file_end, file_of, header_bytes}
use Rattle.pl_build.specs.Layout.{end_of, filled_to, tables}
use Rattle.pl_build.specs.Needed.{files_of}
use Rattle.pl_build.specs.LayoutPlan.{plan_of, base_of, data_address, has_interp}
use Rattle.pl_build.specs.Roles.{section_name, kind_of, flags_of, align_of, entsize_of, link_of, has_name, index_of}
use Rattle.pl_build.specs.Sections.{info_of, row_of, first_places, last_places, section_rows}
use Rattle.pl_build.specs.Segments.{readable, first_load, second_load, dynamic_segment, has_data, with_count, segments, data_offset}
use Rattle.pl_build.specs.StringTable.{start, section_names, role_text_added, text_added}
use Rattle.pl_build.specs.FileKinds.{is_position_independent}
use Rattle.law_demo.specs.Plain.{ArePlain, IsPlain}
use Rattle.law_demo.specs.Planned.{is_table, header_of, section_of, planned_segments, planned_header, planned_sections, IsHeaded}
use Rattle.law_demo.specs.Files.{HeadsAreRead}
use Rattle.law_demo.specs.Standing.{AreStanding, AreLaid}
use Rattle.law_demo.proofs.BackLaws.{Begins, begins_front, rows_back}
use Rattle.law_demo.proofs.FileLaws.{header_written_as, sections_written_as, header_long, begins_heads, names_of, file_by, parts_by, shoff_long, few, made_is, before_tables, before_long}
use Rattle.law_demo.proofs.LaidLaws.{tables_laid}
use Rattle.law_demo.proofs.RoleLaws.{plain_roles, roles_plain, roles_stand, role_of, all_chosen, plain_needs}
use Rattle.law_demo.proofs.TextLaws.{AreTexts, start_texts, added_texts, text_within}

-- ---- the sixteen shapes of a plain recipe's sections

-- what holds at each choice
abbrev pub at_both : (Bool → Bool) → Bool
at_both f = f true && f false

at_one : (f : Bool → Bool) → at_both f ≡ true → (b : Bool) → f b ≡ true
at_one f h true = (and_parts (f true) (f false) h).0
at_one f h false = (and_parts (f true) (f false) h).1

pub sixteen : (f : Bool → Bool → Bool → Bool → Bool) → at_both (λ a. at_both (λ b. at_both (λ c. at_both (λ d. f a b c d)))) ≡ true → (a b c d : Bool) → f a b c d ≡ true
sixteen f h a b c d =
    at_one (λ d. f a b c d) (at_one (λ c. at_both (λ d. f a b c d)) (at_one (λ b. at_both (λ c. at_both (λ d. f a b c d))) (at_one (λ a. at_both (λ b. at_both (λ c. at_both (λ d. f a b c d)))) h a) b) c) d

few_shapes : (a b c d : Bool) → nat_le (length (plain_roles a b c d)) 11 ≡ true
unfolding chosen
few_shapes = sixteen (λ a b c d. nat_le (length (plain_roles a b c d)) 11) refl

names_shapes : (a b c d : Bool) → nat_le (length (section_names (plain_roles a b c d)).bytes) 256 ≡ true
unfolding chosen section_names section_name text_added
names_shapes = sixteen (λ a b c d. nat_le (length (section_names (plain_roles a b c d)).bytes) 256) refl

whole_shapes : (a b c d : Bool) → (Null ∷ filter is_table (plain_roles a b c d)) ++ Data ∷ Bss ∷ Shstrtab ∷ [] ≡ plain_roles a b c d
unfolding chosen
whole_shapes true true true true = refl
whole_shapes true true true false = refl
whole_shapes true true false true = refl
whole_shapes true true false false = refl
whole_shapes true false true true = refl
whole_shapes true false true false = refl
whole_shapes true false false true = refl
whole_shapes true false false false = refl
whole_shapes false true true true = refl
whole_shapes false true true false = refl
whole_shapes false true false true = refl
whole_shapes false true false false = refl
whole_shapes false false true true = refl
whole_shapes false false true false = refl
whole_shapes false false false true = refl
whole_shapes false false false false = refl

below_from : (a b : ℕ) → nat_le a b ≡ true → a ≤ b
below_from a b h = grind (arith, nat_tests)

-- a plain recipe has so many sections, and so many bytes of their names
pub few_roles : (r : Recipe) → IsPlain r → length (plan_of r).roles ≤ 11
few_roles r plain = subst (λ (l : List Role). length l ≤ 11) (sym (roles_plain r plain)) (below_from _ _ (few_shapes _ _ _ _))

pub few_names : (r : Recipe) → IsPlain r → length (section_names (plan_of r).roles).bytes ≤ 256
few_names r plain = subst (λ (l : List Role). length (section_names l).bytes ≤ 256) (sym (roles_plain r plain)) (below_from _ _ (names_shapes _ _ _ _))

pub whole_roles : (r : Recipe) → IsPlain r → (Null ∷ filter is_table (plan_of r).roles) ++ Data ∷ Bss ∷ Shstrtab ∷ [] ≡ (plan_of r).roles
whole_roles r plain = subst (λ (l : List Role). (Null ∷ filter is_table l) ++ Data ∷ Bss ∷ Shstrtab ∷ [] ≡ l) (sym (roles_plain r plain)) (whole_shapes _ _ _ _)

-- ---- numbers that fit their fields

pub record FitsPlace (place : PlacedSection) : Type 0 where
  pub addr : place.addr < 2 ^ 64
  pub offset : place.offset < 2 ^ 64
  pub size : place.size < 2 ^ 64

pub record FitsSection (s : Section) : Type 0 where
  pub name : s.name < 2 ^ 32
  pub kind : s.kind < 2 ^ 32
  pub flags : s.flags < 2 ^ 64
  pub addr : s.addr < 2 ^ 64
  pub offset : s.offset < 2 ^ 64
  pub size : s.size < 2 ^ 64
  pub link : s.link < 2 ^ 32
  pub info : s.info < 2 ^ 32
  pub addralign : s.addralign < 2 ^ 64
  pub entsize : s.entsize < 2 ^ 64

pub record FitsSegment (s : Segment) : Type 0 where
  pub kind : s.kind < 2 ^ 32
  pub flags : s.flags < 2 ^ 32
  pub offset : s.offset < 2 ^ 64
  pub vaddr : s.vaddr < 2 ^ 64
  pub paddr : s.paddr < 2 ^ 64
  pub filesz : s.filesz < 2 ^ 64
  pub memsz : s.memsz < 2 ^ 64
  pub align : s.align < 2 ^ 64

section_back : (s : Section) → FitsSection s → elf.section_at (written.section_header_bytes s) 0 ≡ s
section_back s f = section_read s f.name f.kind f.flags f.addr f.offset f.size f.link f.info f.addralign f.entsize

segment_back : (s : Segment) → FitsSegment s → elf.segment_at (written.segment_bytes s) 0 ≡ s
segment_back s f = segment_read s f.kind f.flags f.offset f.vaddr f.paddr f.filesz f.memsz f.align

-- the numbers of a role: kind, flags, alignment, size of a row
abbrev pub FitsRole : Role → Type 0
FitsRole role = (kind_of role < 2 ^ 32) × (flags_of role < 2 ^ 64) × (align_of role < 2 ^ 64) × (entsize_of role < 2 ^ 64)

role_fits : (role : Role) → FitsRole role
unfolding kind_of flags_of align_of entsize_of
role_fits Null = (omega arith, omega arith, omega arith, omega arith)
role_fits Interp = (omega arith, omega arith, omega arith, omega arith)
role_fits Hash = (omega arith, omega arith, omega arith, omega arith)
role_fits GnuHash = (omega arith, omega arith, omega arith, omega arith)
role_fits Dynsym = (omega arith, omega arith, omega arith, omega arith)
role_fits Dynstr = (omega arith, omega arith, omega arith, omega arith)
role_fits Versym = (omega arith, omega arith, omega arith, omega arith)
role_fits Verdef = (omega arith, omega arith, omega arith, omega arith)
role_fits Verneed = (omega arith, omega arith, omega arith, omega arith)
role_fits RelaDyn = (omega arith, omega arith, omega arith, omega arith)
role_fits RelaPlt = (omega arith, omega arith, omega arith, omega arith)
role_fits RelrDyn = (omega arith, omega arith, omega arith, omega arith)
role_fits Dynamic = (omega arith, omega arith, omega arith, omega arith)
role_fits Data = (omega arith, omega arith, omega arith, omega arith)
role_fits Bss = (omega arith, omega arith, omega arith, omega arith)
role_fits Shstrtab = (omega arith, omega arith, omega arith, omega arith)

info_fits : (p : LayoutPlan) (role : Role) → p.versions ≡ [] → p.files ≡ [] → info_of p role < 2 ^ 32
unfolding info_of
info_fits p Null versions files = omega arith
info_fits p Interp versions files = omega arith
info_fits p Hash versions files = omega arith
info_fits p GnuHash versions files = omega arith
info_fits p Dynsym versions files = omega arith
info_fits p Dynstr versions files = omega arith
info_fits p Versym versions files = omega arith
info_fits p Verdef versions files = omega (arith, ap length versions)
info_fits p Verneed versions files = omega (arith, ap length files)
info_fits p RelaDyn versions files = omega arith
info_fits p RelaPlt versions files = omega arith
info_fits p RelrDyn versions files = omega arith
info_fits p Dynamic versions files = omega arith
info_fits p Data versions files = omega arith
info_fits p Bss versions files = omega arith
info_fits p Shstrtab versions files = omega arith

pub index_small : (roles : List Role) (name : List ℕ) → index_of roles name ≤ length roles
unfolding index_of
index_small roles name = elim (cases_Bool (nat_lt (position_or_len (has_name name) roles) (length roles))) [
  | inl there ↦ rw there (less (position_or_len (has_name name) roles) (length roles) there)
  | inr missing ↦ rw missing (omega arith)
]
  where
    less : (a b : ℕ) → nat_lt a b ≡ true → a ≤ b
    less a b h = grind (arith, nat_tests)

pub base_small : (s : Settings) → base_of s ≤ 4194304
unfolding base_of
base_small s = elim (cases_Bool (is_position_independent s.kind)) [
  | inl there ↦ rw there (omega arith)
  | inr missing ↦ rw missing (omega arith)
]

pub data_small : (s : Settings) → data_address s ≤ 5242880
unfolding data_address
data_small s = omega (arith, base_small s)

type_small : (s : Settings) → type_of s < 2 ^ 16
unfolding type_of
type_small s = elim (cases_Bool (is_position_independent s.kind)) [
  | inl there ↦ rw there (omega arith)
  | inr missing ↦ rw missing (omega arith)
]

entry_small : (s : Settings) (entry : Option ℕ) → entry_or_base s entry < 2 ^ 64
entry_small s None = omega (arith, base_small s)
entry_small s (Some offset) = plus_below (data_address s) offset

-- ---- the places of the sections

pub all_append : {X : Type 0} (P : X → Type 0) (xs ys : List X) → AllByRecursion P xs → AllByRecursion P ys → AllByRecursion P (xs ++ ys)
all_append P [] ys all more = more
all_append P (x ∷ xs) ys all more = (all.0, all_append P xs ys all.1 more)

standing_fit : (p : LayoutPlan) (xs : List ℕ) (from : ℕ) (before places : List PlacedSection) → length xs ≤ 1048576 → AreStanding p xs from before places → AllByRecursion FitsPlace places
standing_fit p xs from before [] le h = tt
standing_fit p xs from before (place ∷ places) le h =
    let s = h.0 in (
      record {
        addr = subst (λ (n : ℕ). n < 2 ^ 64) (sym s.address) (plus_below (base_of p.settings) place.offset);
        offset = omega (arith, s.within, le);
        size = omega (arith, s.within, le);
      },
      standing_fit p xs (place.offset + place.size) (before ++ place ∷ []) places le h.1,
    )

-- the tables' places end below 1 MiB
pub laid_fit : (p : LayoutPlan) (front : List ℕ) (t : Tables) → length front ≡ 1024 → AreLaid p front t → AllByRecursion FitsPlace t.places
laid_fit p front t size laid = standing_fit p (front ++ t.bytes) 1024 [] t.places (omega (arith, length-append front t.bytes, size, laid.fits)) laid.standing

-- of a plain recipe
pub plain_first : (r : Recipe) → IsPlain r → first_places (plan_of r) ≡ null_place ∷ []
unfolding first_places has_interp plan_of
plain_first r plain = rw plain.settings.bare refl

last_fit : (p : LayoutPlan) (t : Tables) (size : ℕ) → ArePlain p.settings → end_of t ≤ 1048576 → size ≤ 256 → AllByRecursion FitsPlace (last_places p (data_offset (end_of t)) size)
unfolding last_places
last_fit p t size plain fits small =
    let near : data_offset (end_of t) < end_of t + 4096 = round_up-near (end_of t) 4096 (omega arith) in (
      record { addr = omega (arith, data_small p.settings); offset = omega (arith, near, fits); size = omega (arith, plain.few_data) },
      (
        record { addr = plus_below (data_address p.settings) p.settings.data_size; offset = omega arith; size = omega (arith, plain.few_bss) },
        (record { addr = omega arith; offset = omega (arith, near, fits, plain.few_data); size = omega (arith, small) }, tt),
      ),
    )

row_fits : (p : LayoutPlan) (names : StringTable) (place : PlacedSection) → p.versions ≡ [] → p.files ≡ [] → length p.roles ≤ 11 → AreTexts names → length names.bytes ≤ 256 → FitsPlace place → FitsSection (section_of (row_of p names place))
unfolding row_of section_of
row_fits p names place versions files few texts small fits =
    let role = role_fits place.role in
    record {
      name = omega (arith, text_within names (section_name place.role) texts, small);
      kind = role.0;
      flags = role.1;
      addr = fits.addr;
      offset = fits.offset;
      size = fits.size;
      link = omega (arith, index_small p.roles (link_of place.role), few);
      info = info_fits p place.role versions files;
      addralign = role.2;
      entsize = role.3;
    }

rows_fit : (p : LayoutPlan) (names : StringTable) (places : List PlacedSection) → p.versions ≡ [] → p.files ≡ [] → length p.roles ≤ 11 → AreTexts names → length names.bytes ≤ 256 → AllByRecursion FitsPlace places → AllByRecursion FitsSection (map section_of (section_rows p names places))
unfolding section_rows
rows_fit p names [] versions files few texts small all = tt
rows_fit p names (place ∷ places) versions files few texts small all = (row_fits p names place versions files few texts small all.0, rows_fit p names places versions files few texts small all.1)

-- ---- of a plain recipe

plan_settings : (r : Recipe) → (plan_of r).settings ≡ r.settings
unfolding plan_of
plan_settings r = refl

pub plain_settings : (r : Recipe) → IsPlain r → ArePlain (plan_of r).settings
plain_settings r plain = subst ArePlain (sym (plan_settings r)) plain.settings

plain_versions : (r : Recipe) → IsPlain r → (plan_of r).versions ≡ []
unfolding plan_of
plain_versions r plain = plain.versions

plain_files : (r : Recipe) → IsPlain r → (plan_of r).files ≡ []
unfolding plan_of files_of
plain_files r plain = rw (plain_needs r plain) refl

roles_texts : (s : StringTable) (roles : List Role) → AreTexts s → AreTexts (fold role_text_added s roles)
roles_texts s [] h = h
roles_texts s (role ∷ roles) h = roles_texts (text_added s (section_name role)) roles (added_texts s (section_name role) h)

pub names_texts : (roles : List Role) → AreTexts (section_names roles)
unfolding section_names
names_texts roles = roles_texts start roles start_texts

-- ---- the program header table

pub plain_segments : (s : Settings) (tables_end : ℕ) (dynamic : PlacedSection) → ArePlain s → segments s tables_end dynamic ≡ chosen ((true, first_load s tables_end) ∷ (has_data s, second_load s tables_end) ∷ (is_there dynamic, dynamic_segment dynamic) ∷ [])
unfolding segments with_count has_interp chosen
plain_segments s tables_end dynamic plain = rw (plain.bare, plain.no_tls) refl

first_fits : (s : Settings) (tables_end : ℕ) → tables_end ≤ 1048576 → FitsSegment (first_load s tables_end)
unfolding first_load readable
first_fits s tables_end le = record {
  kind = omega arith;
  flags = omega arith;
  offset = omega arith;
  vaddr = omega (arith, base_small s);
  paddr = omega (arith, base_small s);
  filesz = omega (arith, le);
  memsz = omega (arith, le);
  align = omega arith;
}

second_fits : (s : Settings) (tables_end : ℕ) → ArePlain s → tables_end ≤ 1048576 → FitsSegment (second_load s tables_end)
unfolding second_load
second_fits s tables_end plain le = record {
  kind = omega arith;
  flags = omega arith;
  offset = omega (arith, le, round_up-near tables_end 4096 (omega arith));
  vaddr = omega (arith, data_small s);
  paddr = omega (arith, data_small s);
  filesz = omega (arith, plain.few_data);
  memsz = plus_below s.data_size s.bss;
  align = omega arith;
}

dynamic_fits : (place : PlacedSection) → FitsPlace place → FitsSegment (dynamic_segment place)
unfolding dynamic_segment readable
dynamic_fits place fits = record {
  kind = omega arith;
  flags = omega arith;
  offset = fits.offset;
  vaddr = fits.addr;
  paddr = fits.addr;
  filesz = fits.size;
  memsz = fits.size;
  align = omega arith;
}

pub place_fits : (name : List ℕ) (places : List PlacedSection) → AllByRecursion FitsPlace places → FitsPlace (place_of places name)
unfolding place_of
place_fits name [] all = record { addr = omega arith; offset = omega arith; size = omega arith }
place_fits name (place ∷ places) all = elim (cases_Bool (is_at name place)) [
  | inl hit ↦ rw hit all.0
  | inr miss ↦ rw miss (place_fits name places all.1)
]

segments_fit : (p : LayoutPlan) (t : Tables) → ArePlain p.settings → end_of t ≤ 1048576 → AllByRecursion FitsPlace t.places → AllByRecursion FitsSegment (planned_segments p t)
unfolding planned_segments
segments_fit p t plain le all =
    subst (AllByRecursion FitsSegment) (sym (plain_segments p.settings (end_of t) (place_of t.places (codes ".dynamic")) plain)) (all_chosen FitsSegment _ (
      λ _. first_fits p.settings (end_of t) le,
      (
        λ _. second_fits p.settings (end_of t) plain le,
        (λ _. dynamic_fits (place_of t.places (codes ".dynamic")) (place_fits (codes ".dynamic") t.places all), tt),
      ),
    ))

segments_are : (p : LayoutPlan) (t : Tables) → ArePlain p.settings → end_of t ≤ 1048576 → AllByRecursion FitsPlace t.places → elf.segments (file_by p t) (planned_header p t) ≡ planned_segments p t
unfolding elf.segments planned_header header_of
segments_are p t plain le all =
    let shoff : ℕ = sections_offset p (end_of t) (names_of p) in
    let phnum : ℕ = length (planned_segments p t) in
    rows_back 56 written.segment_bytes elf.segment_at FitsSegment length-segment segment_back (λ bytes at. segment_part at bytes) (file_by p t) (header_bytes p phnum shoff) 64 (planned_segments p t) (begins_heads p t) (header_long p phnum shoff) (segments_fit p t plain le all)

-- ---- the header

ident_long : length (fields ident) ≡ 16
unfolding fields
ident_long = refl

header_back : (p : LayoutPlan) (phnum shoff : ℕ) → phnum ≤ 7 → shoff ≤ 16777216 → length p.roles ≤ 11 → elf.header (written.header_bytes (header_of p phnum shoff)) ≡ header_of p phnum shoff
unfolding header_of
header_back p phnum shoff few_rows near few_sections =
    header_read (header_of p phnum shoff) ident_long (type_small p.settings) (omega arith) (omega arith) (entry_small p.settings p.settings.entry) (omega arith) (omega (arith, near)) (omega arith) (omega arith) (omega arith) (omega (arith, few_rows)) (omega arith) (omega (arith, few_sections))
    (omega (arith, few_sections, index_small p.roles (codes ".shstrtab")))

header_is : (p : LayoutPlan) (t : Tables) → sections_offset p (end_of t) (names_of p) ≤ 16777216 → length p.roles ≤ 11 → elf.header (file_by p t) ≡ planned_header p t
unfolding planned_header
header_is p t near few_sections =
    let shoff : ℕ = sections_offset p (end_of t) (names_of p) in
    let phnum : ℕ = length (planned_segments p t) in
    let own : List ℕ = header_bytes p phnum shoff in
    let b = begins_front own (flat_map written.segment_bytes (planned_segments p t)) (file_by p t) (begins_heads p t) in
    let first : part 0 64 (file_by p t) ≡ own = ap (λ (l : List ℕ). part 0 64 l) b.is ∙ take_at own b.rest 64 (header_long p phnum shoff) in
    sym (header_part (file_by p t)) ∙ ap elf.header (first ∙ header_written_as p phnum shoff) ∙ header_back p phnum shoff (few p t) near few_sections

-- ---- the section header table

pub places_roles : (r : Recipe) (t : Tables) (offset size : ℕ) → IsPlain r → tables (plan_of r) ≡ Ok t → map role_of (places_of (plan_of r) t offset size) ≡ (plan_of r).roles
unfolding places_of last_places
places_roles r t offset size plain e =
    map-append role_of (first_places (plan_of r) ++ t.places) (last_places (plan_of r) offset size)
    ∙ ap (λ (l : List Role). l ++ Data ∷ Bss ∷ Shstrtab ∷ []) (map-append role_of (first_places (plan_of r)) t.places ∙ ap (λ (l : List PlacedSection). map role_of l ++ map role_of t.places) (plain_first r plain) ∙ ap (λ (l : List Role). Null ∷ l) (roles_stand r t plain e))
    ∙ whole_roles r plain

pub sections_count : (r : Recipe) (t : Tables) → IsPlain r → tables (plan_of r) ≡ Ok t → length (planned_sections (plan_of r) t) ≡ length (plan_of r).roles
unfolding planned_sections section_rows
sections_count r t plain e =
    let places : List PlacedSection = places_of (plan_of r) t (data_offset (end_of t)) (length (section_names (plan_of r).roles).bytes) in
    length-map (map (row_of (plan_of r) (section_names (plan_of r).roles)) places) section_of
    ∙ length-map places (row_of (plan_of r) (section_names (plan_of r).roles))
    ∙ sym (length-map places role_of)
    ∙ ap (λ (l : List Role). length l) (places_roles r t (data_offset (end_of t)) (length (section_names (plan_of r).roles).bytes) plain e)

places_fit : (r : Recipe) (t : Tables) → IsPlain r → end_of t ≤ 1048576 → AllByRecursion FitsPlace t.places → AllByRecursion FitsPlace (places_of (plan_of r) t (data_offset (end_of t)) (length (section_names (plan_of r).roles).bytes))
unfolding places_of
places_fit r t plain le all =
    all_append FitsPlace (first_places (plan_of r) ++ t.places) _
    (all_append FitsPlace (first_places (plan_of r)) t.places (subst (AllByRecursion FitsPlace) (sym (plain_first r plain)) (record { addr = omega arith; offset = omega arith; size = omega arith }, tt)) all)
    (last_fit (plan_of r) t (length (section_names (plan_of r).roles).bytes) (plain_settings r plain) le (few_names r plain))

sections_fit : (r : Recipe) (t : Tables) → IsPlain r → end_of t ≤ 1048576 → AllByRecursion FitsPlace t.places → AllByRecursion FitsSection (planned_sections (plan_of r) t)
unfolding planned_sections
sections_fit r t plain le all =
    rows_fit (plan_of r) (section_names (plan_of r).roles) (places_of (plan_of r) t (data_offset (end_of t)) (length (section_names (plan_of r).roles).bytes))
    (plain_versions r plain) (plain_files r plain) (few_roles r plain) (names_texts (plan_of r).roles) (few_names r plain) (places_fit r t plain le all)

begins_sections : (p : LayoutPlan) (t : Tables) → Begins (filled_to (sections_offset p (end_of t) (names_of p)) (parts_by p t (sections_offset p (end_of t) (names_of p))) ++ flat_map written.section_header_bytes (planned_sections p t)) (file_by p t)
unfolding file_of planned_sections
begins_sections p t =
    let shoff : ℕ = sections_offset p (end_of t) (names_of p) in
    let rows : List SectionRow = section_rows p (names_of p) (places_of p t (data_offset (end_of t)) (length (names_of p).bytes)) in
    record {
      rest = [];
      is = ap (λ (l : List ℕ). filled_to shoff (parts_by p t shoff) ++ l) (sections_written_as rows) ∙ sym (append-nil _);
    }

sections_are : (r : Recipe) (t : Tables) → IsPlain r → tables (plan_of r) ≡ Ok t → end_of t ≤ 1048576 → AllByRecursion FitsPlace t.places → elf.sections (file_by (plan_of r) t) (planned_header (plan_of r) t) ≡ planned_sections (plan_of r) t
unfolding elf.sections planned_header header_of
sections_are r t plain e le all =
    let p : LayoutPlan = plan_of r in
    let shoff : ℕ = sections_offset p (end_of t) (names_of p) in
    ap (λ (n : ℕ). map (λ i. elf.section_at (file_by p t) (shoff + 64 * i)) (range_with_len 0 n)) (sym (sections_count r t plain e))
    ∙ rows_back 64 written.section_header_bytes elf.section_at FitsSection length-section section_back (λ bytes at. section_part at bytes) (file_by p t) (filled_to shoff (parts_by p t shoff)) shoff (planned_sections p t) (begins_sections p t) (shoff_long p t) (sections_fit r t plain le all)

-- ---- all three

pub headed : (r : Recipe) (t : Tables) → IsPlain r → tables (plan_of r) ≡ Ok t → file_end (plan_of r) (end_of t) (names_of (plan_of r)) ≤ 16777216 → IsHeaded (plan_of r) t (file_by (plan_of r) t)
headed r t plain e fits =
    let p : LayoutPlan = plan_of r in
    let shoff : ℕ = sections_offset p (end_of t) (names_of p) in
    let before : List ℕ = before_tables p t shoff in
    let laid : AreLaid p before t = tables_laid p t before (before_long p t shoff) e in
    let all : AllByRecursion FitsPlace t.places = laid_fit p before t (before_long p t shoff) laid in
    record {
      header = header_is p t (omega (arith, fits)) (few_roles r plain);
      segments = segments_are p t (plain_settings r plain) laid.fits all;
      sections = sections_are r t plain e laid.fits all;
    }

pub heads_are_read : HeadsAreRead
heads_are_read r bytes plain e =
    let m = made_is (plan_of r) bytes e in
    (m.0, m.1, subst (IsHeaded (plan_of r) m.0) (sym m.2) (headed r m.0 plain m.1 m.3))
