-- The file of a plain recipe meets acceptance clauses 1 to 8.
use Rattle.std.proofs.Common.{◌≡◌, ℕ, zero, suc, ◌+◌, ◌*◌, ◌%◌, ◌<◌, ◌≤◌, Bool, true, false, List, [], ◌∷◌, ◌++◌, length, map, get_or, Ok, refl, sym, ap, subst, ◌∙◌, append_assoc, length-append, arith, inl, inr}
use Rattle.std.specs.Prelude.{◌⊎◌, not, ◌==◌, codes, filter}
use Rattle.std.specs.List.{AllByRecursion, flat_map, list_any, range_with_len}
use Rattle.std.proofs.lemmas.Bool.{cases_Bool, false≢true}
use Rattle.std.proofs.lemmas.Bool.Decides.{nat_tests}
use Rattle.std.proofs.lemmas.List.{map-append}
use Rattle.pl_base.specs.Bytes.{byte, part}
use Rattle.pl_base.specs.Strings.{has_end}
use Rattle.pl_base.specs.Sums.{plus}
use Rattle.pl_base.proofs.FindLaws.{any_map}
use Rattle.pl_base.proofs.SumLaws.{plus_small, round_up-at_least, round_up-multiple}
use Rattle.pl_base.proofs.WindowLaws.{part_byte}
use Rattle.pl_elf.specs.Clauses.{not_elf, other_class, other_machine, has_dynamic, bad_load, bad_segment, section_data, names, bad_section, read as elf_read}
use Rattle.pl_elf.specs.Headers as elf
use Rattle.pl_elf.specs.Headers.{is_dynamic}
use Rattle.pl_elf.specs.Written as written
use Rattle.pl_elf.specs.declared.header.Header.{Header}
use Rattle.pl_elf.specs.declared.section.Section.{Section}
use Rattle.pl_elf.specs.declared.segment.Segment.{Segment}
use Rattle.pl_form.proofs.HeadLaws.{length-section}
use Rattle.pl_build.specs.declared.layout.Tables.{Tables}
use Rattle.pl_build.specs.declared.layout_plan.LayoutPlan.{LayoutPlan}
use Rattle.pl_build.specs.declared.recipe.Recipe.{Recipe}
use Rattle.pl_build.specs.declared.recipe.Settings.{Settings}
use Rattle.pl_build.specs.declared.roles.PlacedSection.{PlacedSection}
use Rattle.pl_build.specs.declared.roles.Role.{Role}
use Rattle.pl_build.specs.declared.roles.Role.TheVariants.{Data, Bss, Shstrtab}
use Rattle.pl_build.specs.declared.sections.SectionRow.{SectionRow}
use Rattle.pl_build.specs.declared.string_table.StringTable.{StringTable}
use Rattle.pl_build.specs.Choices.{chosen}
use Rattle.pl_build.specs.Data.{data_bytes}
use Rattle.pl_build.specs.Dynamic.{place_of, is_there, is_at}
use Rattle.pl_build.specs.Fields.{fields}
use Rattle.pl_build.specs.File.{ident, type_of, places_of, sections_offset, parts_end, file_of, header_bytes, up_to_data}
use Rattle.pl_build.specs.FileKinds.{is_position_independent}
use Rattle.pl_build.specs.Layout.{end_of, filled_to, tables}
use Rattle.pl_build.specs.LayoutPlan.{plan_of, base_of, data_address}
use Rattle.pl_build.specs.Roles.{section_name, kind_of, has_name, index_of}
use Rattle.pl_build.specs.Sections.{row_of, first_places, last_places, section_rows, section_row_bytes}
use Rattle.pl_build.specs.Segments.{readable, first_load, second_load, dynamic_segment, has_data, data_offset}
use Rattle.law_demo.specs.Files.{FilesAreHeaded}
use Rattle.law_demo.specs.Plain.{ArePlain, IsPlain}
use Rattle.law_demo.specs.Planned.{is_table, header_of, section_of, planned_segments, planned_header, planned_sections, IsHeaded}
use Rattle.law_demo.specs.Standing.{AreStanding, AreLaid}
use Rattle.law_demo.proofs.BackLaws.{begins_long, part_of_begins, rows_long}
use Rattle.law_demo.proofs.ClauseLaws.{not_above, not_at_most, seen, known_kind, IsInFile, IsHeldIn, AreInside, whole, load_good, shown, AreGood, dynamic_shown, segments_good, IsTaken, taken}
use Rattle.law_demo.proofs.FileLaws.{names_of, file_by, parts_by, heads, before_tables, before_long, begins_heads, begins_parts, segments_long, shoff_long, data_after, data_long, header_long, sections_written_as, made_is}
use Rattle.law_demo.proofs.HeadLaws.{all_append, base_small, sixteen, few_roles, plain_settings, plain_segments, sections_count, names_texts, data_small, headed, plain_first}
use Rattle.law_demo.proofs.LaidLaws.{tables_laid}
use Rattle.law_demo.proofs.RoleLaws.{plain_roles, roles_plain, roles_stand, role_of}
use Rattle.law_demo.proofs.TextLaws.{AreTexts, text_ends}

-- ---- clauses 1 to 3: the first bytes

ident_is : (p : LayoutPlan) (t : Tables) (bytes : List ℕ) → elf.header bytes ≡ planned_header p t → part 0 16 bytes ≡ fields ident
unfolding elf.header planned_header header_of
ident_is p t bytes h = ap (λ (x : Header). x.ident) h

byte_of : (bytes : List ℕ) (k : ℕ) → k < 16 → part 0 16 bytes ≡ fields ident → byte k bytes ≡ get_or (fields ident) k 0
byte_of bytes k lt h =
    let here : 0 + k ≡ k = omega arith in
    ap (λ (n : ℕ). byte n bytes) (sym here) ∙ sym (part_byte 0 16 bytes k lt) ∙ ap (λ (r : List ℕ). get_or r k 0) h

is_elf : (bytes : List ℕ) → 64 ≤ length bytes → part 0 16 bytes ≡ fields ident → not_elf bytes ≡ false
unfolding not_elf fields
is_elf bytes long h = rw (not_above 64 (length bytes) long, byte_of bytes 0 (omega arith) h, byte_of bytes 1 (omega arith) h, byte_of bytes 2 (omega arith) h, byte_of bytes 3 (omega arith) h) refl

is_class : (bytes : List ℕ) → part 0 16 bytes ≡ fields ident → other_class bytes ≡ false
unfolding other_class fields
is_class bytes h = rw (byte_of bytes 4 (omega arith) h, byte_of bytes 5 (omega arith) h, byte_of bytes 6 (omega arith) h) refl

is_machine : (p : LayoutPlan) (t : Tables) → other_machine (planned_header p t) ≡ false
unfolding planned_header header_of
is_machine p t = refl

-- ---- where the tables end

pub record IsTable (size : ℕ) (place : PlacedSection) : Type 0 where
  pub some : 0 < place.size
  pub low : 1024 ≤ place.offset
  pub within : place.offset + place.size ≤ size

standing_tables : (p : LayoutPlan) (xs : List ℕ) (from : ℕ) (before places : List PlacedSection) → 1024 ≤ from → AreStanding p xs from before places → AllByRecursion (IsTable (length xs)) places
standing_tables p xs from before [] low h = tt
standing_tables p xs from before (place ∷ places) low h =
    let s = h.0 in
    (record { some = s.some; low = omega (arith, low, s.after); within = s.within }, standing_tables p xs (place.offset + place.size) (before ++ place ∷ []) places (omega (arith, low, s.after)) h.1)

pub found_place : (P : PlacedSection → Type 0) (name : List ℕ) (places : List PlacedSection) → AllByRecursion P places → list_any (is_at name) places ≡ true → P (place_of places name)
unfolding place_of
found_place P name [] all there = absurd (false≢true there)
found_place P name (place ∷ places) all there = elim (cases_Bool (is_at name place)) [
  | inl hit ↦ rw hit all.0
  | inr miss ↦ rw miss (found_place P name places all.1 (rw miss at there))
]

dynamic_shapes : (a b c d : Bool) → list_any (has_name (codes ".dynamic")) (filter is_table (plain_roles a b c d)) ≡ true
unfolding chosen section_name
dynamic_shapes = sixteen (λ a b c d. list_any (has_name (codes ".dynamic")) (filter is_table (plain_roles a b c d))) refl

-- a plain recipe has a dynamic table
pub dynamic_there : (r : Recipe) (t : Tables) → IsPlain r → tables (plan_of r) ≡ Ok t → list_any (is_at (codes ".dynamic")) t.places ≡ true
dynamic_there r t plain e =
    sym (any_map (has_name (codes ".dynamic")) role_of t.places)
    ∙ ap (list_any (has_name (codes ".dynamic"))) (roles_stand r t plain e)
    ∙ subst (λ (l : List Role). list_any (has_name (codes ".dynamic")) (filter is_table l) ≡ true) (sym (roles_plain r plain)) (dynamic_shapes _ _ _ _)

pub laid_tables : (p : LayoutPlan) (t : Tables) → tables p ≡ Ok t → (end_of t ≤ 1048576) × AllByRecursion (IsTable (end_of t)) t.places
laid_tables p t e =
    let shoff : ℕ = sections_offset p (end_of t) (names_of p) in
    let before : List ℕ = before_tables p t shoff in
    let laid : AreLaid p before t = tables_laid p t before (before_long p t shoff) e in
    let long : length (before ++ t.bytes) ≡ end_of t = length-append before t.bytes ∙ ap (λ (n : ℕ). n + length t.bytes) (before_long p t shoff) in
    (laid.fits, subst (λ (n : ℕ). AllByRecursion (IsTable n) t.places) long (standing_tables p (before ++ t.bytes) 1024 [] t.places (omega arith) laid.standing))

-- ---- how long the file is

pub file_long : (r : Recipe) (t : Tables) → IsPlain r → tables (plan_of r) ≡ Ok t → length (file_by (plan_of r) t) ≡ sections_offset (plan_of r) (end_of t) (names_of (plan_of r)) + 64 * length (plan_of r).roles
unfolding file_of planned_sections
file_long r t plain e =
    let p : LayoutPlan = plan_of r in
    let shoff : ℕ = sections_offset p (end_of t) (names_of p) in
    let rows : List SectionRow = section_rows p (names_of p) (places_of p t (data_offset (end_of t)) (length (names_of p).bytes)) in
    let written_rows : length (flat_map section_row_bytes rows) ≡ 64 * length (map section_of rows) = ap (λ (l : List ℕ). length l) (sections_written_as rows) ∙ rows_long 64 written.section_header_bytes length-section (map section_of rows) in
    length-append (filled_to shoff (parts_by p t shoff)) (flat_map section_row_bytes rows)
    ∙ ap (λ (n : ℕ). n + length (flat_map section_row_bytes rows)) (shoff_long p t)
    ∙ ap (λ (n : ℕ). shoff + n) (written_rows ∙ ap (λ (n : ℕ). 64 * n) (sections_count r t plain e))

pub parts_before : (p : LayoutPlan) (t : Tables) → data_offset (end_of t) + p.settings.data_size + length (names_of p).bytes ≤ sections_offset p (end_of t) (names_of p)
unfolding sections_offset parts_end
parts_before p t = round_up-at_least (data_offset (end_of t) + p.settings.data_size + length (names_of p).bytes) 8 (omega arith)

-- ---- clause 6

base_even : (s : Settings) → base_of s % 4096 ≡ 0
unfolding base_of
base_even s = elim (cases_Bool (is_position_independent s.kind)) [
  | inl there ↦ rw there refl
  | inr missing ↦ rw missing refl
]

first_good : (s : Settings) (tables_end : ℕ) → tables_end ≤ 1048576 → bad_load (first_load s tables_end) ≡ false
unfolding first_load readable
first_good s tables_end le = load_good (first_load s tables_end) refl (omega arith) (base_even s) refl (omega (arith, base_small s, le))

second_good : (s : Settings) (tables_end : ℕ) → ArePlain s → bad_load (second_load s tables_end) ≡ false
unfolding second_load data_address
second_good s tables_end plain =
    let sum : plus s.data_size s.bss ≡ s.data_size + s.bss = plus_small s.data_size s.bss (omega (arith, plain.few_data, plain.few_bss)) in
    load_good (second_load s tables_end) refl (omega (arith, sum)) (omega (arith, base_even s)) (round_up-multiple tables_end 4096) (omega (arith, sum, data_small s, plain.few_data, plain.few_bss))

good : (s : Settings) (tables_end : ℕ) (dynamic : PlacedSection) → ArePlain s → tables_end ≤ 1048576 → AreGood (first_load s tables_end) (second_load s tables_end) (dynamic_segment dynamic)
unfolding first_load second_load dynamic_segment readable data_address
good s tables_end dynamic plain le = record {
  first_kind = refl;
  second_kind = refl;
  dynamic_kind = refl;
  first_good = first_good s tables_end le;
  second_good = second_good s tables_end plain;
  apart = omega (arith, le);
  files_apart = omega (arith, round_up-at_least tables_end 4096 (omega arith));
}

chosen_shown : (b : Bool) (f s d : Segment) → chosen ((true, f) ∷ (b, s) ∷ (true, d) ∷ []) ≡ shown b f s d
unfolding chosen
chosen_shown true f s d = refl
chosen_shown false f s d = refl

pub segments_shown : (p : LayoutPlan) (t : Tables) → ArePlain p.settings → is_there (place_of t.places (codes ".dynamic")) ≡ true
    → planned_segments p t ≡ shown (has_data p.settings) (first_load p.settings (end_of t)) (second_load p.settings (end_of t)) (dynamic_segment (place_of t.places (codes ".dynamic")))
unfolding planned_segments
segments_shown p t plain there =
    let d : PlacedSection = place_of t.places (codes ".dynamic") in
    plain_segments p.settings (end_of t) d plain
    ∙ ap (λ (b : Bool). chosen ((true, first_load p.settings (end_of t)) ∷ (has_data p.settings, second_load p.settings (end_of t)) ∷ (b, dynamic_segment d) ∷ [])) there
    ∙ chosen_shown (has_data p.settings) (first_load p.settings (end_of t)) (second_load p.settings (end_of t)) (dynamic_segment d)

shown_in : (size : ℕ) (b : Bool) (f s d : Segment) → IsInFile size f → IsInFile size s → IsInFile size d → AllByRecursion (IsInFile size) (shown b f s d)
shown_in size true f s d one two three = (one, (two, (three, tt)))
shown_in size false f s d one two three = (one, (three, tt))

-- ---- clause 5

abbrev pub IsPlaceIn : ℕ → PlacedSection → Type 0
IsPlaceIn size place = (place.role ≡ Bss) ⊎ (place.offset + place.size ≤ size)

row_in : (p : LayoutPlan) (names : StringTable) (size : ℕ) (place : PlacedSection) → IsPlaceIn size place → IsHeldIn size (section_of (row_of p names place))
unfolding row_of section_of kind_of
row_in p names size place (inl zeros) = inl (ap kind_of zeros)
row_in p names size place (inr held) = inr held

pub there_is : (place : PlacedSection) → 0 < place.size → is_there place ≡ true
there_is place some = grind (arith, nat_tests)

pub heads_within : (p : LayoutPlan) (t : Tables) → 64 + 56 * length (planned_segments p t) ≤ length (file_by p t)
heads_within p t =
    let shoff : ℕ = sections_offset p (end_of t) (names_of p) in
    let h : List ℕ = header_bytes p (length (planned_segments p t)) shoff in
    let s : List ℕ = flat_map written.segment_bytes (planned_segments p t) in
    omega (arith, begins_long (heads p t shoff) (file_by p t) (begins_heads p t), length-append h s, header_long p (length (planned_segments p t)) shoff, segments_long (planned_segments p t))

-- fields of the header
segment_rows_in : (p : LayoutPlan) (t : Tables) → (planned_header p t).phoff + 56 * (planned_header p t).phnum ≤ length (file_by p t)
unfolding planned_header header_of
segment_rows_in p t = heads_within p t

section_rows_in : (p : LayoutPlan) (t : Tables) → length (file_by p t) ≡ sections_offset p (end_of t) (names_of p) + 64 * length p.roles → (planned_header p t).shoff + 64 * (planned_header p t).shnum ≤ length (file_by p t)
unfolding planned_header header_of
section_rows_in p t long = omega (arith, long)

index_is : (p : LayoutPlan) (t : Tables) (n : ℕ) → n + 1 ≡ length p.roles → index_of p.roles (codes ".shstrtab") + 1 ≡ length p.roles → (planned_header p t).shstrndx ≡ n
unfolding planned_header header_of
index_is p t n count last = omega (arith, count, last)

count_is : (p : LayoutPlan) (t : Tables) (n : ℕ) → n + 1 ≡ length p.roles → n < (planned_header p t).shnum
unfolding planned_header header_of
count_is p t n count = omega (arith, count)

table_in : (size : ℕ) (places : List PlacedSection) (n : ℕ) → n ≤ size → AllByRecursion (IsTable n) places → AllByRecursion (IsPlaceIn size) places
table_in size [] n le all = tt
table_in size (place ∷ places) n le all = (inr (omega (arith, le, all.0.within)), table_in size places n le all.1)

rows_in : (p : LayoutPlan) (names : StringTable) (size : ℕ) (places : List PlacedSection) → AllByRecursion (IsPlaceIn size) places → AllByRecursion (IsHeldIn size) (map section_of (section_rows p names places))
unfolding section_rows
rows_in p names size [] all = tt
rows_in p names size (place ∷ places) all = (row_in p names size place all.0, rows_in p names size places all.1)

places_in : (r : Recipe) (t : Tables) (size : ℕ) → IsPlain r → AllByRecursion (IsTable (end_of t)) t.places → sections_offset (plan_of r) (end_of t) (names_of (plan_of r)) ≤ size
    → AllByRecursion (IsPlaceIn size) (places_of (plan_of r) t (data_offset (end_of t)) (length (names_of (plan_of r)).bytes))
unfolding places_of last_places
places_in r t size plain all le =
    let p : LayoutPlan = plan_of r in
    let far = parts_before p t in
    let near = round_up-at_least (end_of t) 4096 (omega arith) in
    all_append (IsPlaceIn size) (first_places p ++ t.places) _
    (all_append (IsPlaceIn size) (first_places p) t.places (subst (AllByRecursion (IsPlaceIn size)) (sym (plain_first r plain)) (inr (omega arith), tt)) (table_in size t.places (end_of t) (omega (arith, far, le, near)) all))
    (inr (omega (arith, far, le)), (inl refl, (inr (omega (arith, far, le)), tt)))

planned_in : (r : Recipe) (t : Tables) (size : ℕ) → IsPlain r → tables (plan_of r) ≡ Ok t → sections_offset (plan_of r) (end_of t) (names_of (plan_of r)) ≤ size → AllByRecursion (IsHeldIn size) (planned_sections (plan_of r) t)
unfolding planned_sections
planned_in r t size plain e le =
    let p : LayoutPlan = plan_of r in
    rows_in p (names_of p) size (places_of p t (data_offset (end_of t)) (length (names_of p).bytes)) (places_in r t size plain (laid_tables p t e).1 le)

segments_inside : (r : Recipe) (t : Tables) (size : ℕ) → IsPlain r → tables (plan_of r) ≡ Ok t → sections_offset (plan_of r) (end_of t) (names_of (plan_of r)) ≤ size → AllByRecursion (IsInFile size) (planned_segments (plan_of r) t)
unfolding first_load second_load dynamic_segment readable
segments_inside r t size plain e le =
    let p : LayoutPlan = plan_of r in
    let laid = laid_tables p t e in
    let d : IsTable (end_of t) (place_of t.places (codes ".dynamic")) = found_place (IsTable (end_of t)) (codes ".dynamic") t.places laid.1 (dynamic_there r t plain e) in
    let far = parts_before p t in
    let near = round_up-at_least (end_of t) 4096 (omega arith) in
    subst (AllByRecursion (IsInFile size)) (sym (segments_shown p t (plain_settings r plain) (there_is (place_of t.places (codes ".dynamic")) d.some)))
    (shown_in size (has_data p.settings) (first_load p.settings (end_of t)) (second_load p.settings (end_of t)) (dynamic_segment (place_of t.places (codes ".dynamic")))
    (omega (arith, far, le, near)) (omega (arith, far, le)) (omega (arith, far, le, near, d.within)))

inside : (r : Recipe) (t : Tables) → IsPlain r → tables (plan_of r) ≡ Ok t → IsHeaded (plan_of r) t (file_by (plan_of r) t) → AreInside (file_by (plan_of r) t) (planned_header (plan_of r) t)
inside r t plain e h =
    let p : LayoutPlan = plan_of r in
    let size : ℕ = length (file_by p t) in
    let long = file_long r t plain e in
    let le : sections_offset p (end_of t) (names_of p) ≤ size = omega (arith, long) in
    record {
      segment_rows = segment_rows_in p t;
      section_rows = section_rows_in p t long;
      segments = subst (AllByRecursion (IsInFile size)) (sym h.segments) (segments_inside r t size plain e le);
      sections = subst (AllByRecursion (IsHeldIn size)) (sym h.sections) (planned_in r t size plain e le);
    }

-- ---- clause 7

at_range : {X : Type 0} (f : ℕ → X) (k n i : ℕ) (d : X) → i < n → get_or (map f (range_with_len k n)) i d ≡ f (k + i)
at_range f k zero i d lt = absurd (omega (arith, lt))
at_range f k (suc n) zero d lt = ap f (let e : k ≡ k + 0 = omega arith in e)
at_range f k (suc n) (suc i) d lt = at_range f (k + 1) n i d (omega (arith, lt)) ∙ ap f (let e : k + 1 + i ≡ k + suc i = omega arith in e)

at_last : {X : Type 0} (xs : List X) (x d : X) → get_or (xs ++ x ∷ []) (length xs) d ≡ x
at_last [] x d = refl
at_last (y ∷ xs) x d = at_last xs x d

last_section : (bytes : List ℕ) (h : Header) (xs : List Section) (s : Section) → elf.sections bytes h ≡ xs ++ s ∷ [] → length xs < h.shnum → elf.section bytes h (length xs) ≡ s
unfolding elf.sections
last_section bytes h xs s e lt =
    let here : 0 + length xs ≡ length xs = omega arith in
    sym (at_range (elf.section bytes h) 0 h.shnum (length xs) s lt ∙ ap (elf.section bytes h) here) ∙ ap (λ (l : List Section). get_or l (length xs) s) e ∙ at_last xs s s

-- the section of the names
abbrev pub names_place : LayoutPlan → Tables → PlacedSection
names_place p t = record { role = Shstrtab; addr = 0; offset = data_offset (end_of t) + p.settings.data_size; size = length (names_of p).bytes }

-- the sections before it
abbrev pub sections_before : LayoutPlan → Tables → List Section
sections_before p t =
    map section_of (map (row_of p (names_of p)) ((first_places p ++ t.places) ++
    record { role = Data; addr = data_address p.settings; offset = data_offset (end_of t); size = p.settings.data_size }
    ∷ record { role = Bss; addr = plus (data_address p.settings) p.settings.data_size; offset = 0; size = p.settings.bss } ∷ []))

sections_end : (p : LayoutPlan) (t : Tables) → planned_sections p t ≡ sections_before p t ++ section_of (row_of p (names_of p) (names_place p t)) ∷ []
unfolding planned_sections section_rows places_of last_places
sections_end p t =
    let row : PlacedSection → SectionRow = row_of p (names_of p) in
    let front : List PlacedSection = first_places p ++ t.places in
    let two : List PlacedSection = record { role = Data; addr = data_address p.settings; offset = data_offset (end_of t); size = p.settings.data_size } ∷ record { role = Bss; addr = plus (data_address p.settings) p.settings.data_size; offset = 0; size = p.settings.bss } ∷ [] in
    ap (λ (l : List PlacedSection). map section_of (map row l)) (sym (append_assoc front two (names_place p t ∷ [])))
    ∙ ap (map section_of) (map-append row (front ++ two) (names_place p t ∷ []))
    ∙ map-append section_of (map row (front ++ two)) (row (names_place p t) ∷ [])

index_shapes : (a b c d : Bool) → (index_of (plain_roles a b c d) (codes ".shstrtab") + 1 == length (plain_roles a b c d)) ≡ true
unfolding chosen section_name index_of
index_shapes = sixteen (λ a b c d. index_of (plain_roles a b c d) (codes ".shstrtab") + 1 == length (plain_roles a b c d)) refl

same_number : (a b : ℕ) → (a == b) ≡ true → a ≡ b
same_number a b h = grind (arith, nat_tests)

pub names_last : (r : Recipe) → IsPlain r → index_of (plan_of r).roles (codes ".shstrtab") + 1 ≡ length (plan_of r).roles
names_last r plain = subst (λ (l : List Role). index_of l (codes ".shstrtab") + 1 ≡ length l) (sym (roles_plain r plain)) (same_number _ _ (index_shapes _ _ _ _))

names_data : (p : LayoutPlan) (t : Tables) → section_data (file_by p t) (section_of (row_of p (names_of p) (names_place p t))) ≡ (names_of p).bytes
unfolding section_data section_of row_of kind_of
names_data p t =
    let shoff : ℕ = sections_offset p (end_of t) (names_of p) in
    let front : List ℕ = up_to_data p t (end_of t) shoff ++ data_bytes p.settings.data_size p.words in
    let long : length front ≡ data_offset (end_of t) + p.settings.data_size = length-append (up_to_data p t (end_of t) shoff) (data_bytes p.settings.data_size p.words) ∙ omega (arith, data_after p t shoff, data_long p.settings.data_size p.words) in
    ap (λ (n : ℕ). part n (length (names_of p).bytes) (file_by p t)) (sym long) ∙ part_of_begins front (names_of p).bytes (file_by p t) (begins_parts p t)

pub names_are : (r : Recipe) (t : Tables) → IsPlain r → tables (plan_of r) ≡ Ok t → IsHeaded (plan_of r) t (file_by (plan_of r) t) → names (file_by (plan_of r) t) (planned_header (plan_of r) t) ≡ (names_of (plan_of r)).bytes
names_are r t plain e h =
    let p : LayoutPlan = plan_of r in
    let head : Header = planned_header p t in
    let xs : List Section = sections_before p t in
    let s : Section = section_of (row_of p (names_of p) (names_place p t)) in
    let count : length xs + 1 ≡ length p.roles = sym (length-append xs (s ∷ [])) ∙ ap (λ (l : List Section). length l) (sym (sections_end p t)) ∙ sections_count r t plain e in
    let index : head.shstrndx ≡ length xs = index_is p t (length xs) count (names_last r plain) in
    let last : elf.section (file_by p t) head (length xs) ≡ s = last_section (file_by p t) head xs s (h.sections ∙ sections_end p t) (count_is p t (length xs) count) in
    ap (λ (n : ℕ). section_data (file_by p t) (elf.section (file_by p t) head n)) index ∙ ap (section_data (file_by p t)) last ∙ names_data p t

names_end : (p : LayoutPlan) (names : StringTable) (places : List PlacedSection) → AreTexts names → list_any (λ s. not (has_end s.name names.bytes)) (map section_of (section_rows p names places)) ≡ false
unfolding section_rows row_of section_of
names_end p names [] texts = refl
names_end p names (place ∷ places) texts = rw (text_ends names (section_name place.role) texts, names_end p names places texts) refl

sections_good : (bytes : List ℕ) (h : Header) (ss : List Section) → h.shentsize ≡ 64 → h.shnum ≤ 65000 → h.shstrndx < h.shnum → list_any (λ s. not (has_end s.name (names bytes h))) ss ≡ false → bad_section bytes h ss ≡ false
unfolding bad_section
sections_good bytes h ss size few below ends = elim (cases_Bool (h.shnum == 0)) [
  | inl none ↦ rw none refl
  | inr some ↦ rw (some, size, not_above h.shnum 65000 few, not_at_most h.shnum h.shstrndx below, ends) refl
]

kind_is : (p : LayoutPlan) (t : Tables) → ((planned_header p t).kind ≡ 2) ⊎ ((planned_header p t).kind ≡ 3)
unfolding planned_header header_of type_of
kind_is p t = elim (cases_Bool (is_position_independent p.settings.kind)) [
  | inl there ↦ rw there (inr refl)
  | inr missing ↦ rw missing (inl refl)
]

row_sizes : (p : LayoutPlan) (t : Tables) → ((planned_header p t).phentsize ≡ 56) × ((planned_header p t).shentsize ≡ 64)
unfolding planned_header header_of
row_sizes p t = (refl, refl)

counts : (r : Recipe) (t : Tables) → IsPlain r → ((planned_header (plan_of r) t).shnum ≤ 65000) × ((planned_header (plan_of r) t).shstrndx < (planned_header (plan_of r) t).shnum)
unfolding planned_header header_of
counts r t plain = (omega (arith, few_roles r plain), omega (arith, names_last r plain))

planned_end : (p : LayoutPlan) (t : Tables) → list_any (λ s. not (has_end s.name (names_of p).bytes)) (planned_sections p t) ≡ false
unfolding planned_sections
planned_end p t = names_end p (names_of p) (places_of p t (data_offset (end_of t)) (length (names_of p).bytes)) (names_texts p.roles)

planned_good : (r : Recipe) (t : Tables) (h : Header) → IsPlain r → tables (plan_of r) ≡ Ok t → h.phentsize ≡ 56 → bad_segment h (planned_segments (plan_of r) t) ≡ false
planned_good r t h plain e size =
    let p : LayoutPlan = plan_of r in
    let laid = laid_tables p t e in
    let place : PlacedSection = place_of t.places (codes ".dynamic") in
    let d : IsTable (end_of t) place = found_place (IsTable (end_of t)) (codes ".dynamic") t.places laid.1 (dynamic_there r t plain e) in
    subst (λ (ss : List Segment). bad_segment h ss ≡ false) (sym (segments_shown p t (plain_settings r plain) (there_is place d.some)))
    (segments_good h (has_data p.settings) (first_load p.settings (end_of t)) (second_load p.settings (end_of t)) (dynamic_segment place) size (good p.settings (end_of t) place (plain_settings r plain) laid.0))

pub planned_dynamic : (r : Recipe) (t : Tables) → IsPlain r → tables (plan_of r) ≡ Ok t → list_any is_dynamic (planned_segments (plan_of r) t) ≡ true
planned_dynamic r t plain e =
    let p : LayoutPlan = plan_of r in
    let laid = laid_tables p t e in
    let place : PlacedSection = place_of t.places (codes ".dynamic") in
    let d : IsTable (end_of t) place = found_place (IsTable (end_of t)) (codes ".dynamic") t.places laid.1 (dynamic_there r t plain e) in
    subst (λ (ss : List Segment). list_any is_dynamic ss ≡ true) (sym (segments_shown p t (plain_settings r plain) (there_is place d.some)))
    (dynamic_shown (has_data p.settings) (first_load p.settings (end_of t)) (second_load p.settings (end_of t)) (dynamic_segment place) (good p.settings (end_of t) place (plain_settings r plain) laid.0))

-- the headers are those that were planned, and they are taken
pub file_taken : (r : Recipe) (t : Tables) → IsPlain r → tables (plan_of r) ≡ Ok t → IsHeaded (plan_of r) t (file_by (plan_of r) t) → IsTaken (file_by (plan_of r) t) (planned_header (plan_of r) t)
file_taken r t plain e h =
    let p : LayoutPlan = plan_of r in
    let bytes : List ℕ = file_by p t in
    let head : Header = planned_header p t in
    let first = ident_is p t bytes h.header in
    let long : 64 ≤ length bytes = omega (arith, heads_within p t) in
    let held : AreInside bytes head = inside r t plain e h in
    let dynamic : has_dynamic bytes head ≡ true = seen bytes head held.segment_rows (ap (list_any is_dynamic) h.segments ∙ planned_dynamic r t plain e) in
    let sizes = row_sizes p t in
    let ends : list_any (λ s. not (has_end s.name (names bytes head))) (elf.sections bytes head) ≡ false =
    ap (λ (strings : List ℕ). list_any (λ s. not (has_end s.name strings)) (elf.sections bytes head)) (names_are r t plain e h) ∙ ap (list_any (λ s. not (has_end s.name (names_of p).bytes))) h.sections ∙ planned_end p t in
    record {
      long = long;
      magic = is_elf bytes long first;
      word = is_class bytes first;
      machine = is_machine p t;
      kind = known_kind bytes head dynamic (kind_is p t);
      inside = whole bytes head held;
      segments = ap (bad_segment head) h.segments ∙ planned_good r t head plain e sizes.0;
      sections = sections_good bytes head (elf.sections bytes head) sizes.1 (counts r t plain).0 (counts r t plain).1 ends;
      some = some_is head.shnum (counts r t plain).1;
    }
  where
    some_is : (n : ℕ) → (planned_header (plan_of r) t).shstrndx < n → (n == 0) ≡ false
    some_is n lt = grind (arith, nat_tests)

pub files_headed : FilesAreHeaded
files_headed r bytes plain e =
    let m = made_is (plan_of r) bytes e in
    let h = headed r m.0 plain m.1 m.3 in
    (m.0, m.1, subst (λ (b : List ℕ). elf_read b ≡ Ok (planned_header (plan_of r) m.0)) (sym m.2) (taken (file_by (plan_of r) m.0) (planned_header (plan_of r) m.0) h.header (file_taken r m.0 plain m.1 h)))
