-- Clauses 12 to 14 take the tables of a fixed file.
use Rattle.std.proofs.Common.{◌≡◌, ℕ, suc, ◌^◌, ◌<◌, Bool, true, false, List, [], ◌∷◌, length, map, Ok, refl, sym, ◌∙◌, arith, inl, inr}
use Rattle.std.specs.Prelude.{◌||◌, ◌&&◌, ◌==◌, not, filter, count_by, bit_and}
use Rattle.std.specs.List.{All, list_any}
use Rattle.std.proofs.lemmas.Bool.{cases_Bool, eqb-true, or_parts, true≢false, false≢true}
use Rattle.std.proofs.lemmas.List.Elements.{All-head, All-tail, All-nil, All-cons}
use Rattle.std.proofs.lemmas.List.Sums.{length-filter}
use Rattle.pl_base.specs.Sums.{plus}
use Rattle.pl_base.specs.Windows.{Window}
use Rattle.pl_dyn.specs.Kinds.{is_address_tag}
use Rattle.pl_dyn.specs.declared.constants.TheConstants.{DT_PLTRELSZ, DT_HASH, DT_STRTAB, DT_SYMTAB, DT_RELA, DT_RELASZ, DT_RELAENT, DT_STRSZ, DT_SYMENT, DT_PLTREL, DT_JMPREL, DT_RELR, DT_RELRSZ, DT_RELRENT, DT_GNU_HASH, DT_VERSYM, DT_VERDEF, DT_VERNEED}
use Rattle.pl_dyn.specs.declared.tags.Tag.{Tag}
use Rattle.pl_elf.specs.declared.constants.TheConstants.{RELA_SIZE, RELR_SIZE, SHF_ALLOC, SHT_DYNSYM}
use Rattle.pl_elf.specs.declared.header.Header.{Header}
use Rattle.pl_elf.specs.declared.section.Section.{Section}
use Rattle.pl_elf.specs.declared.segment.Segment.{Segment}
use Rattle.pl_object.specs.FilePart.{file_window}
use Rattle.pl_object.specs.TableClauses.{any_lost, any_table_outside, bad_jmprel, bad_packed, bad_rela, bad_relocation_tables, bad_relr_table, bad_relr_tags, bad_tables, check_tables, is_misplaced, is_other, is_uneven, lacks_tags, meets, misplaced_relr, other_dynsym, parted, tables_overlap}
use Rattle.pl_object.specs.Tables.{begins_at, has_kind, has_tag, is_allocated, is_lost, main_windows, relr_memory, tables_memory, value}
use Rattle.pl_object.specs.declared.object.Object.{Object}
use Rattle.pl_object.proofs.TabledLaws.{ArePassed}
use Rattle.law_fixed.specs.Fixed.{fixed_header, fixed_section, fixed_segment}
use Rattle.law_fixed.proofs.LookupLaws.{count_kept}
use Rattle.pl_pie.specs.Pie.{as_program, begins_low, has_loaded_symbols, is_laid_out, loads_sections, writes_kept}
use Rattle.pl_pie.proofs.AlikeLaws.{all_held, any_share_alike, goes_held, main_alike, meets_alike, meets_first, packed_alike, packed_go, tables_go}
use Rattle.pl_pie.proofs.AtLaws.{IsAt, file_at, new_tags, old_tags}
use Rattle.pl_pie.proofs.MemoryLaws.{begins_moved, section_kind_kept, sum_same}
use Rattle.pl_pie.proofs.PackedAgain.{passed, table_fine}
use Rattle.pl_pie.proofs.PieLaws.{and_both}
use Rattle.pl_pie.proofs.RowOfLaws.{moved_tag}
use Rattle.pl_pie.proofs.TagLaws.{has_moved, value_moves, value_stays}

-- ---- one section of a kind

module _ {X : Type 0} (k a : X → Bool) where
  none_any : (xs : List X) → length (filter k xs) ≡ 0 → list_any (λ x. k x && a x) xs ≡ false
  none_any [] none = refl
  none_any (x ∷ xs) none = elim (cases_Bool (k x)) [
    | inl hit ↦ absurd (let more : suc (length (filter k xs)) ≡ 0 = rw hit at none in omega (arith, more))
    | inr miss ↦ rw miss (none_any xs (rw miss at none))
  ]

  none_all : (xs : List X) → length (filter k xs) ≡ 0 → All (λ x. k x ≡ true → a x ≡ true) xs
  none_all [] none = All-nil (λ x. k x ≡ true → a x ≡ true)
  none_all (x ∷ xs) none = elim (cases_Bool (k x)) [
    | inl hit ↦ absurd (let more : suc (length (filter k xs)) ≡ 0 = rw hit at none in omega (arith, more))
    | inr miss ↦ All-cons (λ y. k y ≡ true → a y ≡ true) x xs (λ e. absurd (true≢false (sym e ∙ miss))) (none_all xs (rw miss at none))
  ]

  either : (b c : Bool) → (b || c) ≡ true → c ≡ false → b ≡ true
  either true c h e = refl
  either false c h e = absurd (true≢false (sym h ∙ e))

  -- where one passes the first test, and one both, each that passes the first passes both
  one_all : (xs : List X) → length (filter k xs) ≡ 1 → list_any (λ x. k x && a x) xs ≡ true → All (λ x. k x ≡ true → a x ≡ true) xs
  one_all [] one any = absurd (false≢true any)
  one_all (x ∷ xs) one any = elim (cases_Bool (k x)) [
    | inl hit ↦
        let whole : suc (length (filter k xs)) ≡ 1 = rw hit at one in
        let none : length (filter k xs) ≡ 0 = omega (arith, whole) in
        let both : (a x || list_any (λ y. k y && a y) xs) ≡ true = rw hit at any in
        All-cons (λ y. k y ≡ true → a y ≡ true) x xs (λ e. either (a x) (list_any (λ y. k y && a y) xs) both (none_any xs none)) (none_all xs none)
    | inr miss ↦ All-cons (λ y. k y ≡ true → a y ≡ true) x xs (λ e. absurd (true≢false (sym e ∙ miss))) (one_all xs (rw miss at one) (rw miss at any))
  ]

-- ---- sections

misplaced_kept : (at address : ℕ) (s : Section) → address < 2 ^ 64 → s.addr < 2 ^ 64 → (has_kind SHT_DYNSYM s ≡ true → is_allocated s ≡ true) → is_misplaced (plus address at) (fixed_section at s) ≡ is_misplaced address s
unfolding is_misplaced fixed_section
misplaced_kept at address s low there loaded = elim (cases_Bool (has_kind SHT_DYNSYM s)) [
  | inl hit ↦ rw (hit, flagged (loaded hit), sum_same at s.addr address there low) refl
  | inr miss ↦ rw miss refl
]
  where
    not_false : (b : Bool) → not b ≡ true → b ≡ false
    not_false true h = absurd (false≢true h)
    not_false false h = refl

    flagged : is_allocated s ≡ true → (bit_and s.flags SHF_ALLOC == 0) ≡ false
    flagged h = not_false _ h

any_misplaced : (at address : ℕ) (secs : List Section) → address < 2 ^ 64 → All (λ s. s.addr < 2 ^ 64) secs → All (λ s. has_kind SHT_DYNSYM s ≡ true → is_allocated s ≡ true) secs
    → list_any (is_misplaced (plus address at)) (map (fixed_section at) secs) ≡ list_any (is_misplaced address) secs
any_misplaced at address [] low all loaded = refl
any_misplaced at address (s ∷ secs) low all loaded =
    rw (
      misplaced_kept at address s low (All-head (λ x. x.addr < 2 ^ 64) s secs all) (All-head (λ x. has_kind SHT_DYNSYM x ≡ true → is_allocated x ≡ true) s secs loaded),
      any_misplaced at address secs low (All-tail (λ x. x.addr < 2 ^ 64) s secs all) (All-tail (λ x. has_kind SHT_DYNSYM x ≡ true → is_allocated x ≡ true) s secs loaded),
    ) refl

any_begins : (at address : ℕ) (secs : List Section) → address < 2 ^ 64 → All (λ s. s.addr < 2 ^ 64) secs → list_any (begins_at (plus address at)) (map (fixed_section at) secs) ≡ list_any (begins_at address) secs
any_begins at address [] low all = refl
any_begins at address (s ∷ secs) low all =
    rw (begins_moved at address s low (All-head (λ x. x.addr < 2 ^ 64) s secs all), any_begins at address secs low (All-tail (λ x. x.addr < 2 ^ 64) s secs all)) refl

lost_kept : (at number : ℕ) (ts : List Tag) (secs : List Section) → is_address_tag number ≡ true → value number ts < 2 ^ 64 → All (λ s. s.addr < 2 ^ 64) secs
    → is_lost number (map (moved_tag at) ts) (map (fixed_section at) secs) ≡ is_lost number ts secs
unfolding is_lost
lost_kept at number ts secs address low all = elim (cases_Bool (has_tag number ts)) [
  | inl there ↦ rw (has_moved at number ts, there, value_moves at number ts address there, any_begins at (value number ts) secs low all) refl
  | inr none ↦ rw (has_moved at number ts, none) refl
]

-- ---- tags

parted_kept : (at x y : ℕ) (ts : List Tag) → parted x y (map (moved_tag at) ts) ≡ parted x y ts
parted_kept at x y ts = rw (has_moved at x ts, has_moved at y ts) refl

other_kept : (at number wanted : ℕ) (ts : List Tag) → is_address_tag number ≡ false → is_other number wanted (map (moved_tag at) ts) ≡ is_other number wanted ts
other_kept at number wanted ts plain = rw (has_moved at number ts, value_stays at number ts plain) refl

uneven_kept : (at number : ℕ) (ts : List Tag) → is_address_tag number ≡ false → is_uneven number (map (moved_tag at) ts) ≡ is_uneven number ts
uneven_kept at number ts plain = rw (value_stays at number ts plain) refl

lacks_kept : (at : ℕ) (ts : List Tag) → lacks_tags (map (moved_tag at) ts) ≡ lacks_tags ts
unfolding lacks_tags is_address_tag
lacks_kept at ts = rw (has_moved at DT_STRTAB ts, has_moved at DT_STRSZ ts, has_moved at DT_SYMTAB ts, has_moved at DT_SYMENT ts, value_stays at DT_SYMENT ts refl) refl

rela_kept : (at : ℕ) (ts : List Tag) → bad_rela (map (moved_tag at) ts) ≡ bad_rela ts
unfolding bad_rela is_address_tag
rela_kept at ts = rw (parted_kept at DT_RELA DT_RELASZ ts, parted_kept at DT_RELA DT_RELAENT ts, other_kept at DT_RELAENT RELA_SIZE ts refl, uneven_kept at DT_RELASZ ts refl) refl

jmprel_kept : (at : ℕ) (ts : List Tag) → bad_jmprel (map (moved_tag at) ts) ≡ bad_jmprel ts
unfolding bad_jmprel is_address_tag
jmprel_kept at ts = rw (parted_kept at DT_JMPREL DT_PLTRELSZ ts, parted_kept at DT_JMPREL DT_PLTREL ts, other_kept at DT_PLTREL DT_RELA ts refl, uneven_kept at DT_PLTRELSZ ts refl) refl

rows_kept : (at : ℕ) (ts : List Tag) → bad_relocation_tables (map (moved_tag at) ts) ≡ bad_relocation_tables ts
unfolding bad_relocation_tables
rows_kept at ts = rw (rela_kept at ts, jmprel_kept at ts) refl

relr_kept : (at : ℕ) (ts : List Tag) → bad_relr_tags (map (moved_tag at) ts) ≡ bad_relr_tags ts
unfolding bad_relr_tags is_address_tag
relr_kept at ts = rw (parted_kept at DT_RELR DT_RELRSZ ts, parted_kept at DT_RELR DT_RELRENT ts, other_kept at DT_RELRENT RELR_SIZE ts refl) refl

-- ---- the tables

module _ (bytes : List ℕ) (o : Object) (at : ℕ) (is : IsAt bytes o at) where
  abbrev p : List ℕ
  p = as_program bytes

  abbrev file : List ℕ
  file = file_at at o bytes

  abbrev h : Header
  h = o.header

  abbrev ss : List Segment
  ss = o.segments

  abbrev secs : List Section
  secs = o.sections

  abbrev ts : List Tag
  ts = old_tags bytes o

  abbrev moved_tags : List Tag
  moved_tags = new_tags at bytes o

  abbrev fixed_segments : List Segment
  fixed_segments = map (fixed_segment at) o.segments

  abbrev fixed_sections : List Section
  fixed_sections = map (fixed_section at) o.sections

  are : ArePassed p h ss secs ts
  are = passed bytes o at is

  -- its one DYNSYM section is loaded
  loaded_symbols : has_loaded_symbols o ≡ true
  unfolding is_laid_out
  loaded_symbols =
      let a = and_both (begins_low o && has_loaded_symbols o && not (loads_sections o)) (not (writes_kept bytes o)) is.pie.laid_out in
      let b = and_both (begins_low o && has_loaded_symbols o) (not (loads_sections o)) a.0 in
      (and_both (begins_low o) (has_loaded_symbols o) b.0).1

  true_of : (b : Bool) → not b ≡ false → b ≡ true
  true_of true e = refl
  true_of false e = absurd (true≢false e)

  one_dynsym : length (filter (has_kind SHT_DYNSYM) secs) ≡ 1
  unfolding other_dynsym
  one_dynsym =
      length-filter (has_kind SHT_DYNSYM) secs
      ∙ eqb-true (count_by (has_kind SHT_DYNSYM) secs) 1 (true_of _ (or_parts (not (count_by (has_kind SHT_DYNSYM) secs == 1)) (list_any (is_misplaced (value DT_SYMTAB ts)) secs) are.dynsym).0)

  all_loaded : All (λ s. has_kind SHT_DYNSYM s ≡ true → is_allocated s ≡ true) secs
  unfolding has_loaded_symbols
  all_loaded = one_all (has_kind SHT_DYNSYM) is_allocated secs one_dynsym loaded_symbols

  dynsym_kept : other_dynsym moved_tags fixed_sections ≡ other_dynsym ts secs
  unfolding other_dynsym is_address_tag
  dynsym_kept =
      rw (
        value_moves at DT_SYMTAB ts refl (is.pie.accepted.tabled is.other).whole.symbols,
        count_kept (has_kind SHT_DYNSYM) (has_kind SHT_DYNSYM) (fixed_section at) secs (λ i d lt. section_kind_kept at SHT_DYNSYM _),
        any_misplaced at (value DT_SYMTAB ts) secs (is.values DT_SYMTAB) is.addresses all_loaded,
      ) refl

  any_lost_kept : any_lost moved_tags fixed_sections ≡ any_lost ts secs
  unfolding any_lost is_address_tag
  any_lost_kept =
      rw (
        lost_kept at DT_HASH ts secs refl (is.values DT_HASH) is.addresses,
        lost_kept at DT_GNU_HASH ts secs refl (is.values DT_GNU_HASH) is.addresses,
        lost_kept at DT_VERSYM ts secs refl (is.values DT_VERSYM) is.addresses,
        lost_kept at DT_VERDEF ts secs refl (is.values DT_VERDEF) is.addresses,
        lost_kept at DT_VERNEED ts secs refl (is.values DT_VERNEED) is.addresses,
      ) refl

  outside_kept : any_table_outside fixed_segments fixed_sections moved_tags ≡ any_table_outside ss secs ts
  unfolding any_table_outside
  outside_kept = rw (any_lost_kept, all_held at ss is.stands (tables_memory moved_tags fixed_sections) (tables_memory ts secs) (tables_go bytes o at is)) refl

  overlap_kept : tables_overlap (fixed_header at h) fixed_segments fixed_sections moved_tags ≡ tables_overlap h ss secs ts
  unfolding tables_overlap
  overlap_kept = any_share_alike (main_windows (fixed_header at h) fixed_segments fixed_sections moved_tags) (main_windows h ss secs ts) (main_alike bytes o at is)

  tables_kept : bad_tables (fixed_header at h) fixed_segments fixed_sections moved_tags ≡ bad_tables h ss secs ts
  unfolding bad_tables
  tables_kept = rw (lacks_kept at ts, dynsym_kept, outside_kept, overlap_kept) refl

  misplaced_relr_kept : misplaced_relr (fixed_header at h) fixed_segments fixed_sections moved_tags ≡ misplaced_relr h ss secs ts
  unfolding misplaced_relr
  misplaced_relr_kept =
      let mains : List Window = main_windows (fixed_header at h) fixed_segments fixed_sections moved_tags in
      let met : meets mains (file_window fixed_segments (relr_memory moved_tags)) ≡ meets (main_windows h ss secs ts) (file_window ss (relr_memory ts)) =
      meets_first mains (file_window fixed_segments (relr_memory moved_tags)) (file_window ss (relr_memory ts)) (packed_alike bytes o at is)
      ∙ meets_alike mains (main_windows h ss secs ts) (file_window ss (relr_memory ts)) (main_alike bytes o at is) in
      rw (goes_held at ss is.stands (relr_memory moved_tags) (relr_memory ts) (packed_go bytes o at is), met) refl

  packed_fine : bad_packed file (fixed_header at h) fixed_segments fixed_sections moved_tags ≡ false
  unfolding bad_packed
  packed_fine =
      let old = or_parts (bad_relr_tags ts || misplaced_relr h ss secs ts) (bad_relr_table p ss ts) are.packed in
      rw (relr_kept at ts, misplaced_relr_kept, old.0, table_fine bytes o at is) refl

  fine_bad : bad_packed p h ss secs ts ≡ false
  fine_bad = are.packed

  -- clauses 12 to 14
  pub tables_again : check_tables file (fixed_header at h) fixed_segments fixed_sections moved_tags ≡ Ok tt
  unfolding check_tables
  tables_again = rw (tables_kept, rows_kept at ts, packed_fine) (rw fine_bad at is.tables)
