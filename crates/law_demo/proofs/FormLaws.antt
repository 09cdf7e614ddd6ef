-- The object of a plain recipe with room has no form fault.
use Rattle.std.proofs.Common.{◌≡◌, ℕ, ◌+◌, ◌-◌, ◌*◌, ◌<◌, ◌≤◌, Bool, true, false, List, [], ◌∷◌, ◌++◌, length, map, Some, Ok, refl, sym, ap, subst, ◌∙◌, arith, inl, inr}
use Rattle.std.specs.Prelude.{◌⊎◌, ◌&&◌, not, ◌==◌, nat_lt, codes}
use Rattle.std.specs.List.{AllByRecursion, list_any}
use Rattle.std.proofs.lemmas.Bool.{cases_Bool}
use Rattle.std.proofs.lemmas.Bool.Decides.{nat_tests}
use Rattle.pl_base.specs.Sums.{plus, round_up}
use Rattle.pl_base.specs.Windows.{share}
use Rattle.pl_base.proofs.SumLaws.{plus_small, round_up-at_least}
use Rattle.pl_elf.specs.Headers.{is_load}
use Rattle.pl_elf.specs.Kinds.{is_library}
use Rattle.pl_elf.specs.declared.range.Range.{Range}
use Rattle.pl_elf.specs.declared.segment.Segment.{Segment}
use Rattle.pl_object.specs.PlaceClauses.{last_load}
use Rattle.pl_object.specs.Reads.{object}
use Rattle.pl_object.specs.declared.object.Object.{Object}
use Rattle.pl_form.specs.Faults.{bss_too_large, cut_of, form_fault, in_region, is_later, is_loaded_in, is_torn, is_torn_section, program_fault, region_window, stray_header}
use Rattle.pl_build.specs.declared.layout.Tables.{Tables}
use Rattle.pl_build.specs.declared.layout_plan.LayoutPlan.{LayoutPlan}
use Rattle.pl_build.specs.declared.recipe.Recipe.{Recipe}
use Rattle.pl_build.specs.declared.recipe.Settings.{Settings}
use Rattle.pl_build.specs.declared.roles.PlacedSection.{PlacedSection}
use Rattle.pl_build.specs.declared.roles.Role.TheVariants.{Bss}
use Rattle.pl_build.specs.declared.string_table.StringTable.{StringTable}
use Rattle.pl_build.specs.Dynamic.{place_of}
use Rattle.pl_build.specs.File.{places_of, sections_offset}
use Rattle.pl_build.specs.Layout.{end_of, tables}
use Rattle.pl_build.specs.LayoutPlan.{data_address, plan_of}
use Rattle.pl_build.specs.Roles.{kind_of}
use Rattle.pl_build.specs.Sections.{first_places, last_places, row_of, section_rows}
use Rattle.pl_build.specs.Segments.{data_offset, dynamic_segment, first_load, has_data, readable, second_load}
use Rattle.law_demo.specs.Accepted.{planned_dynamic, planned_heads, planned_object}
use Rattle.law_demo.specs.Plain.{ArePlain, IsPlain}
use Rattle.law_demo.specs.Planned.{header_of, planned_header, planned_sections, planned_segments, section_of}
use Rattle.law_demo.proofs.ClauseLaws.{shown}
use Rattle.law_demo.proofs.FileLaws.{few, names_of}
use Rattle.law_demo.proofs.HeadLaws.{all_append, plain_first, plain_settings}
use Rattle.law_demo.proofs.HeadedLaws.{IsTable, dynamic_there, found_place, laid_tables, parts_before, segments_shown, there_is}
use Rattle.law_demo.specs.Forms.{HasRoom, IsAbove, RoomyObjectsHaveNoFault}

none_of_each : {X : Type 0} (p : X → Bool) (xs : List X) → AllByRecursion (λ x. p x ≡ false) xs → list_any p xs ≡ false
none_of_each p [] all = refl
none_of_each p (x ∷ xs) all = rw (all.0, none_of_each p xs all.1) refl

not_less : (a b : ℕ) → b ≤ a → nat_lt a b ≡ false
not_less a b le = grind (arith, nat_tests)

whole_below : (cut at size : ℕ) → at + size ≤ cut → is_torn cut at size ≡ false
whole_below cut at size le = grind (arith, nat_tests)

whole_above : (cut at size : ℕ) → cut ≤ at → is_torn cut at size ≡ false
whole_above cut at size le = grind (arith, nat_tests)

-- ---- segments

-- what ends at or below a region has no address of it, nor has anything one of a region without addresses
abbrev IsBelow : ℕ → ℕ → Range → Type 0
IsBelow at size region = (at + size ≤ region.start) ⊎ (region.end ≤ region.start)

apart : (at size start end : ℕ) → (at + size ≤ start) ⊎ (end ≤ start) → share (record { at = at; size = size }) (record { at = start; size = end - start }) ≡ false
apart at size start end (inl below) = let no = not_less start (at + size) below in rw no (and_no (nat_lt at (start + (end - start))) (nat_lt 0 size) (nat_lt 0 (end - start)))
  where
    and_no : (a b c : Bool) → (a && false && b && c) ≡ false
    and_no true b c = refl
    and_no false b c = refl
apart at size start end (inr none) = let no = not_less 0 (end - start) (omega (arith, none)) in rw no (and_last (nat_lt at (start + (end - start))) (nat_lt start (at + size)) (nat_lt 0 size))
  where
    and_last : (a b c : Bool) → (a && b && c && false) ≡ false
    and_last true true true = refl
    and_last true true false = refl
    and_last true false c = refl
    and_last false b c = refl

outside : (region : Range) (s : Segment) → IsBelow s.vaddr s.memsz region → is_loaded_in (region_window region) s ≡ false
outside region s below = rw (apart s.vaddr s.memsz region.start region.end below) (and_false (is_load s))
  where
    and_false : (b : Bool) → (b && false) ≡ false
    and_false true = refl
    and_false false = refl

no_later : (load some : Bool) (a b : ℕ) → b ≤ a → (load && some && nat_lt a b) ≡ false
no_later load some a b le = rw (not_less a b le) (and_false load some)
  where
    and_false : (x y : Bool) → (x && y && false) ≡ false
    and_false true true = refl
    and_false true false = refl
    and_false false y = refl

module _ (s : Settings) (tables_end : ℕ) (d : PlacedSection) where
  abbrev first : Segment
  first = first_load s tables_end

  abbrev second : Segment
  second = second_load s tables_end

  abbrev last : Segment
  last = dynamic_segment d

  abbrev three : List Segment
  three = first ∷ second ∷ last ∷ []

  abbrev cut : ℕ
  cut = round_up tables_end 4096 + s.data_size

  last_is : last_load three ≡ Some second
  unfolding last_load first_load second_load dynamic_segment readable
  last_is = refl

  cut_is : cut_of second ≡ cut
  unfolding second_load
  cut_is = refl

  memory_is : ArePlain s → plus s.data_size s.bss ≡ s.data_size + s.bss
  memory_is plain = plus_small s.data_size s.bss (omega (arith, plain.few_data, plain.few_bss))

  zeros_few : ArePlain s → HasRoom s → bss_too_large second ≡ false
  unfolding second_load
  zeros_few plain room = not_less 16777216 (plus s.data_size s.bss - s.data_size) (omega (arith, memory_is plain, room.zeros))

  segments_whole : d.offset + d.size ≤ tables_end → AllByRecursion (λ x. is_torn cut x.offset x.filesz ≡ false) three
  unfolding first_load second_load dynamic_segment readable
  segments_whole within =
      let near = round_up-at_least tables_end 4096 (omega arith) in
      (whole_below cut 0 tables_end (omega (arith, near)), (whole_below cut (round_up tables_end 4096) s.data_size (omega arith), (whole_below cut d.offset d.size (omega (arith, near, within)), tt)))

  -- below a region that is above the data
  segments_outside : ArePlain s → tables_end ≤ 1048576 → (region : Range) → IsAbove s region → AllByRecursion (λ x. is_loaded_in (region_window region) x ≡ false) three
  unfolding first_load second_load dynamic_segment readable data_address
  segments_outside plain le region above =
      let sum = memory_is plain in
      elim above [
        | inl low ↦ (outside region first (inl (omega (arith, low, le))), (outside region second (inl (omega (arith, low, sum))), (refl, tt)))
        | inr none ↦ (outside region first (inr none), (outside region second (inr none), (refl, tt)))
      ]

  gap_outside : ArePlain s → (region : Range) → IsAbove s region → share (record { at = second.vaddr + second.memsz; size = 2097152 }) (region_window region) ≡ false
  unfolding second_load
  gap_outside plain region above =
      let sum = memory_is plain in
      apart (data_address s + plus s.data_size s.bss) 2097152 region.start region.end (elim above [ inl low ↦ inl (omega (arith, low, sum)) | inr none ↦ inr none ])

  none_later : AllByRecursion (λ x. is_later second x ≡ false) three
  unfolding first_load second_load dynamic_segment readable
  none_later =
      (no_later true (nat_lt 0 tables_end) (round_up tables_end 4096) 0 (omega arith), (no_later true (nat_lt 0 s.data_size) (round_up tables_end 4096) (round_up tables_end 4096) (omega arith), (refl, tt)))

-- ---- sections

-- a section of zeros, one before the cut, or one behind it
abbrev IsWhole : ℕ → PlacedSection → Type 0
IsWhole cut place = (place.role ≡ Bss) ⊎ ((place.offset + place.size ≤ cut) ⊎ (cut ≤ place.offset))

row_whole : (p : LayoutPlan) (names : StringTable) (cut : ℕ) (place : PlacedSection) → IsWhole cut place → is_torn_section cut (section_of (row_of p names place)) ≡ false
unfolding row_of section_of kind_of
row_whole p names cut place (inl zeros) = let hit : (kind_of place.role == 8) ≡ true = ap (λ (k : ℕ). k == 8) (ap kind_of zeros) in rw hit refl
row_whole p names cut place (inr held) = rw (torn held) (and_false (not (kind_of place.role == 8)))
  where
    torn : (place.offset + place.size ≤ cut) ⊎ (cut ≤ place.offset) → is_torn cut place.offset place.size ≡ false
    torn h = elim h [ inl below ↦ whole_below cut place.offset place.size below | inr above ↦ whole_above cut place.offset place.size above ]

    and_false : (b : Bool) → (b && false) ≡ false
    and_false true = refl
    and_false false = refl

rows_whole : (p : LayoutPlan) (names : StringTable) (limit : ℕ) (places : List PlacedSection) → AllByRecursion (IsWhole limit) places → AllByRecursion (λ x. is_torn_section limit x ≡ false) (map section_of (section_rows p names places))
unfolding section_rows
rows_whole p names limit [] all = tt
rows_whole p names limit (place ∷ places) all = (row_whole p names limit place all.0, rows_whole p names limit places all.1)

tables_whole : (cut : ℕ) (places : List PlacedSection) (n : ℕ) → n ≤ cut → AllByRecursion (IsTable n) places → AllByRecursion (IsWhole cut) places
tables_whole cut [] n le all = tt
tables_whole cut (place ∷ places) n le all = (inr (inl (omega (arith, le, all.0.within))), tables_whole cut places n le all.1)

places_whole : (r : Recipe) (t : Tables) → IsPlain r → AllByRecursion (IsTable (end_of t)) t.places
    → AllByRecursion (IsWhole (round_up (end_of t) 4096 + (plan_of r).settings.data_size)) (places_of (plan_of r) t (data_offset (end_of t)) (length (names_of (plan_of r)).bytes))
unfolding places_of last_places
places_whole r t plain all =
    let p : LayoutPlan = plan_of r in
    let cut : ℕ = round_up (end_of t) 4096 + p.settings.data_size in
    let near = round_up-at_least (end_of t) 4096 (omega arith) in
    all_append (IsWhole cut) (first_places p ++ t.places) _
    (all_append (IsWhole cut) (first_places p) t.places (subst (AllByRecursion (IsWhole cut)) (sym (plain_first r plain)) (inr (inl (omega arith)), tt)) (tables_whole cut t.places (end_of t) (omega (arith, near)) all))
    (inr (inl (omega arith)), (inl refl, (inr (inr (omega arith)), tt)))

sections_whole : (r : Recipe) (t : Tables) → IsPlain r → tables (plan_of r) ≡ Ok t → AllByRecursion (λ x. is_torn_section (round_up (end_of t) 4096 + (plan_of r).settings.data_size) x ≡ false) (planned_sections (plan_of r) t)
unfolding planned_sections
sections_whole r t plain e =
    let p : LayoutPlan = plan_of r in
    rows_whole p (names_of p) (round_up (end_of t) 4096 + p.settings.data_size) (places_of p t (data_offset (end_of t)) (length (names_of p).bytes)) (places_whole r t plain (laid_tables p t e).1)

-- ---- the header

rows_before : (p : LayoutPlan) (t : Tables) → nat_lt (round_up (end_of t) 4096 + p.settings.data_size) ((planned_header p t).phoff + 56 * (planned_header p t).phnum) ≡ false
unfolding planned_header header_of
rows_before p t = not_less (round_up (end_of t) 4096 + p.settings.data_size) (64 + 56 * length (planned_segments p t)) (omega (arith, few p t, round_up-at_least (end_of t) 4096 (omega arith)))

table_behind : (p : LayoutPlan) (t : Tables) → is_torn (round_up (end_of t) 4096 + p.settings.data_size) (planned_header p t).shoff (64 * (planned_header p t).shnum) ≡ false
unfolding planned_header header_of
table_behind p t = whole_above (round_up (end_of t) 4096 + p.settings.data_size) (sections_offset p (end_of t) (names_of p)) (64 * length p.roles) (omega (arith, parts_before p t))

-- ---- the whole

record IsRoomy (o : Object) (region : Range) (last : Segment) : Type 0 where
  spare : 4 ≤ o.spare
  there : last_load o.segments ≡ Some last
  zeros : bss_too_large last ≡ false
  headers : stray_header o (cut_of last) ≡ false
  off : in_region o.segments last region ≡ false
  latest : list_any (is_later last) o.segments ≡ false

no_fault : (o : Object) (region : Range) (last : Segment) → IsRoomy o region last → form_fault o region ≡ Ok tt
unfolding form_fault program_fault
no_fault o region last roomy = elim (cases_Bool (is_library o.kind)) [
  | inl library ↦ rw (library, not_less o.spare 2 (omega (arith, roomy.spare))) refl
  | inr program ↦ rw (program, not_less o.spare 4 roomy.spare, roomy.there, roomy.zeros, roomy.headers, roomy.off, roomy.latest) refl
]

settings_stay : (r : Recipe) → (plan_of r).settings ≡ r.settings
unfolding plan_of
settings_stay r = refl

data_there : (s : Settings) → HasRoom s → has_data s ≡ true
unfolding has_data
data_there s room = let some : nat_lt 0 s.data_size ≡ true = less 0 s.data_size room.some_data in rw some refl
  where
    less : (a b : ℕ) → a < b → nat_lt a b ≡ true
    less a b lt = grind (arith, nat_tests)

heads_whole : (o : Object) (cut : ℕ) → nat_lt cut (o.header.phoff + 56 * o.header.phnum) ≡ false → list_any (λ s. is_torn cut s.offset s.filesz) o.segments ≡ false → list_any (is_torn_section cut) o.sections ≡ false
    → is_torn cut o.header.shoff (64 * o.header.shnum) ≡ false → stray_header o cut ≡ false
unfolding stray_header
heads_whole o cut a b c d = rw (a, b, c, d) refl

off_region : (ss : List Segment) (last : Segment) (region : Range) → list_any (is_loaded_in (region_window region)) ss ≡ false → share (record { at = last.vaddr + last.memsz; size = 2097152 }) (region_window region) ≡ false → in_region ss last region ≡ false
unfolding in_region
off_region ss last region a b = rw (a, b) refl

pub roomy_objects : RoomyObjectsHaveNoFault
unfolding planned_object object planned_heads planned_dynamic
roomy_objects r t before region plain e room above =
    let p : LayoutPlan = plan_of r in
    let s : Settings = p.settings in
    let stay = settings_stay r in
    let own : HasRoom s = subst HasRoom (sym stay) room in
    let high : IsAbove s region = subst (λ (x : Settings). IsAbove x region) (sym stay) above in
    let flat : ArePlain s = plain_settings r plain in
    let laid = laid_tables p t e in
    let d : PlacedSection = place_of t.places (codes ".dynamic") in
    let there : IsTable (end_of t) d = found_place (IsTable (end_of t)) (codes ".dynamic") t.places laid.1 (dynamic_there r t plain e) in
    let segments_are : planned_segments p t ≡ three s (end_of t) d = segments_shown p t flat (there_is d there.some) ∙ ap (λ (b : Bool). shown b (first_load s (end_of t)) (second_load s (end_of t)) (dynamic_segment d)) (data_there s own) in
    let whole = sections_whole r t plain e in
    no_fault (planned_object r t before) region (second_load s (end_of t)) (record {
      spare = own.spare;
      there = subst (λ (ss : List Segment). last_load ss ≡ Some (second_load s (end_of t))) (sym segments_are) (last_is s (end_of t) d);
      zeros = zeros_few s (end_of t) d flat own;
      headers = subst (λ (n : ℕ). stray_header (planned_object r t before) n ≡ false) (sym (cut_is s (end_of t) d)) (heads_whole (planned_object r t before) (cut s (end_of t) d) (rows_before p t)
          (subst (λ (ss : List Segment). list_any (λ x. is_torn (cut s (end_of t) d) x.offset x.filesz) ss ≡ false) (sym segments_are) (none_of_each (λ x. is_torn (cut s (end_of t) d) x.offset x.filesz) (three s (end_of t) d) (segments_whole s (end_of t) d there.within)))
          (none_of_each (is_torn_section (cut s (end_of t) d)) (planned_sections p t) whole) (table_behind p t));
      off = off_region (planned_segments p t) (second_load s (end_of t)) region
          (subst (λ (ss : List Segment). list_any (is_loaded_in (region_window region)) ss ≡ false) (sym segments_are) (none_of_each (is_loaded_in (region_window region)) (three s (end_of t) d) (segments_outside s (end_of t) d flat laid.0 region high)))
          (gap_outside s (end_of t) d flat region high);
      latest = subst (λ (ss : List Segment). list_any (is_later (second_load s (end_of t))) ss ≡ false) (sym segments_are) (none_of_each (is_later (second_load s (end_of t))) (three s (end_of t) d) (none_later s (end_of t) d));
    })
