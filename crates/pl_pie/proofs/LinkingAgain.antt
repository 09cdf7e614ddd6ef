-- The names of a fixed file are those of the program, and its symbols are the program's with their values moved.
use Rattle.std.proofs.Common.{◌≡◌, ℕ, ◌<◌, true, false, List, [], ◌∷◌, ◌++◌, length, map, take, drop, get_or, Option, None, Result, Ok, Err, refl, sym, ap, subst, ◌∙◌, arith, inl, inr}
use Rattle.std.specs.Prelude.{◌==◌, filter, slice_get, if◌then◌else◌}
use Rattle.std.proofs.lemmas.Bool.{cases_Bool, eqb-true}
use Rattle.std.proofs.lemmas.List.{length-map}
use Rattle.pl_base.specs.Answers.{◌>>=◌, unless}
use Rattle.pl_base.specs.Each.{each}
use Rattle.pl_base.specs.Windows.{Window, within}
use Rattle.pl_base.proofs.AnswerLaws.{because_ok, bind_ok, ok_same}
use Rattle.pl_dyn.specs.Kinds.{is_address_tag}
use Rattle.pl_dyn.specs.Read.{has_number}
use Rattle.pl_dyn.specs.declared.constants.TheConstants.{DT_HASH, DT_GNU_HASH, DT_NEEDED, DT_VERSYM, DT_VERDEF, DT_VERDEFNUM, DT_VERNEED, DT_VERNEEDNUM}
use Rattle.pl_dyn.specs.declared.tags.Tag.{Tag}
use Rattle.pl_elf.specs.declared.section.Section.{Section}
use Rattle.pl_elf.specs.declared.segment.Segment.{Segment}
use Rattle.pl_object.specs.FilePart.{file_window, loaded}
use Rattle.pl_object.specs.Named.{range_window, symbols_of, strings_of}
use Rattle.pl_object.specs.Names.{bad_version_tags, counted, known_versions, miscounted, needed, needed_name, record_count, strings, symbols, table_versions, versioned, versions}
use Rattle.pl_object.specs.Reads.{linking}
use Rattle.pl_object.specs.Refusals.{of_symbols}
use Rattle.pl_object.specs.Tables.{has_tag, link_windows, section_memory, symbols_memory, tables_memory}
use Rattle.pl_object.specs.declared.headers.Headers.{Headers}
use Rattle.pl_object.specs.declared.linking.Linking.{Linking}
use Rattle.pl_object.specs.declared.object.Object.{Object}
use Rattle.pl_object.specs.declared.refusal.Refusal.{Refusal}
use Rattle.pl_object.specs.declared.refusal.Refusal.TheVariants.{Clause}
use Rattle.pl_object.proofs.TabledLaws.{windows_back}
use Rattle.pl_elf.specs.declared.range.Range.{Range}
use Rattle.pl_sym.specs.Table as table
use Rattle.pl_sym.specs.declared.symbol.Symbol.{Symbol}
use Rattle.pl_ver.specs.declared.versions.Versions.{Versions}
use Rattle.law_fixed.specs.Fixed.{fixed, fixed_section, fixed_segment, fixed_symbol}
use Rattle.pl_pie.specs.Pie.{as_program, kept_windows, named_windows, window_if}
use Rattle.pl_pie.proofs.AlikeLaws.{section_alike, strings_alike, symbols_stay}
use Rattle.pl_pie.proofs.AtLaws.{IsAt, file_at, headers_of, linking_of, new_tags, old_tags}
use Rattle.pl_pie.proofs.MemoryLaws.{alike_within}
use Rattle.pl_pie.proofs.RowOfLaws.{moved_tag, number_kept}
use Rattle.pl_pie.proofs.SymbolLaws.{versioned_moved}
use Rattle.pl_pie.proofs.TablesRead.{symbols_read}
use Rattle.pl_pie.proofs.TagLaws.{has_moved, value_stays}
use Rattle.pl_pie.proofs.UnmetLaws.{kept_within}

-- ---- the windows that are kept, one by one

abbrev section_at_tag : List ℕ → Object → ℕ → Window
section_at_tag bytes o number = file_window o.segments (section_memory number (old_tags bytes o) o.sections)

kept_are : (bytes : List ℕ) (o : Object) (at : ℕ) → IsAt bytes o at
    → kept_windows o ≡ strings_of o ∷ section_at_tag bytes o DT_HASH ∷ section_at_tag bytes o DT_GNU_HASH ∷ section_at_tag bytes o DT_VERSYM ∷ section_at_tag bytes o DT_VERDEF ∷ section_at_tag bytes o DT_VERNEED ∷ window_if (slice_get o.sections o.header.shstrndx)
unfolding kept_windows named_windows link_windows tables_memory
kept_are bytes o at is =
    let t = is.pie.accepted.tabled is.other in
    let five : List Window = section_at_tag bytes o DT_HASH ∷ section_at_tag bytes o DT_GNU_HASH ∷ section_at_tag bytes o DT_VERSYM ∷ section_at_tag bytes o DT_VERDEF ∷ section_at_tag bytes o DT_VERNEED ∷ [] in
    ap (λ (rs : List Range). strings_of o ∷ map range_window (take 5 (drop 7 rs)) ++ window_if (slice_get o.sections o.header.shstrndx)) t.shape
    ∙ ap (λ (ws : List Window). strings_of o ∷ ws ++ window_if (slice_get o.sections o.header.shstrndx)) (windows_back five)

kept_by : (bytes : List ℕ) (o : Object) (at k : ℕ) (d : Window) (ws : List Window) → IsAt bytes o at → kept_windows o ≡ ws → k < length ws → within (get_or ws k d) (file_at at o bytes) ≡ within (get_or ws k d) (as_program bytes)
kept_by bytes o at k d ws is same lt =
    subst (λ (vs : List Window). within (get_or vs k d) (file_at at o bytes) ≡ within (get_or vs k d) (as_program bytes)) same
    (kept_within bytes o at k d is.pie is.even (subst (λ (vs : List Window). k < length vs) (sym same) lt))

-- ---- what is needed

plain_needed : is_address_tag DT_NEEDED ≡ false
unfolding is_address_tag
plain_needed = refl

needed_stays : (w : ℕ) (t : Tag) → has_number DT_NEEDED t ≡ true → moved_tag w t ≡ t
unfolding moved_tag
needed_stays w t hit = rw (ap is_address_tag (eqb-true t.number DT_NEEDED hit) ∙ plain_needed) refl

needed_tags : (w : ℕ) (ts : List Tag) → filter (has_number DT_NEEDED) (map (moved_tag w) ts) ≡ filter (has_number DT_NEEDED) ts
needed_tags w [] = refl
needed_tags w (t ∷ ts) = elim (cases_Bool (has_number DT_NEEDED t)) [
  | inl hit ↦ rw (needed_stays w t hit, hit) (ap (λ (us : List Tag). t ∷ us) (needed_tags w ts))
  | inr miss ↦ rw (ap (λ (n : ℕ). n == DT_NEEDED) (number_kept w t) ∙ miss, miss) (needed_tags w ts)
]

needed_kept : (w : ℕ) (ts : List Tag) (names : List ℕ) → needed (map (moved_tag w) ts) names ≡ needed ts names
unfolding needed
needed_kept w ts names = ap (each (needed_name names)) (needed_tags w ts)

-- ---- versions

plain_defs : is_address_tag DT_VERDEFNUM ≡ false
unfolding is_address_tag
plain_defs = refl

plain_needs : is_address_tag DT_VERNEEDNUM ≡ false
unfolding is_address_tag
plain_needs = refl

bad_kept : (w : ℕ) (ts : List Tag) → bad_version_tags (map (moved_tag w) ts) ≡ bad_version_tags ts
unfolding bad_version_tags
bad_kept w ts = rw (has_moved w DT_VERDEF ts, has_moved w DT_VERDEFNUM ts, has_moved w DT_VERSYM ts, has_moved w DT_VERNEED ts, has_moved w DT_VERNEEDNUM ts) refl

count_kept : (w address count : ℕ) (ts : List Tag) → is_address_tag count ≡ false → record_count address count (map (moved_tag w) ts) ≡ record_count address count ts
count_kept w address count ts plain = rw (has_moved w address ts, value_stays w count ts plain) refl

counted_kept : (w : ℕ) (words : List ℕ) (bare : List Symbol) (known : Versions) → counted words (map (fixed_symbol w) bare) known ≡ counted words bare known
unfolding counted miscounted
counted_kept w words bare known = rw (length-map bare (fixed_symbol w)) refl

bound_kept : (w : ℕ) (words : List ℕ) (bare : List Symbol) (r : Result Versions Refusal) → (r >>= counted words (map (fixed_symbol w) bare)) ≡ (r >>= counted words bare)
bound_kept w words bare (Ok known) = counted_kept w words bare known
bound_kept w words bare (Err fault) = refl

-- ---- all of them

linking_from : (xs : List ℕ) (f : Headers) (ts : List Tag) (names : List (List ℕ)) (bare : List Symbol) (known : Option Versions) → needed ts (strings xs f.segments ts) ≡ Ok names → symbols xs f.segments f.sections ts ≡ Ok bare
    → versions xs f.segments f.sections ts bare ≡ Ok known → linking xs f ts ≡ Ok (record { needed = names; symbols = versioned bare known; versions = known })
unfolding linking
linking_from xs f ts names bare known a b c = rw (a, b, c) refl

record IsLinked (xs : List ℕ) (f : Headers) (ts : List Tag) (l : Linking) : Type 0 where
  bare : List Symbol
  names : needed ts (strings xs f.segments ts) ≡ Ok l.needed
  read : symbols xs f.segments f.sections ts ≡ Ok bare
  known : versions xs f.segments f.sections ts bare ≡ Ok l.versions
  is : versioned bare l.versions ≡ l.symbols

linked : (xs : List ℕ) (f : Headers) (ts : List Tag) (l : Linking) → linking xs f ts ≡ Ok l → IsLinked xs f ts l
unfolding linking
linked xs f ts l e =
    let names = bind_ok (needed ts (strings xs f.segments ts)) _ l e in
    let bare = bind_ok (symbols xs f.segments f.sections ts) _ l names.2 in
    let known = bind_ok (versions xs f.segments f.sections ts bare.0) _ l bare.2 in
    let same = ok_same _ l known.2 in
    record {
      bare = bare.0;
      names = names.1 ∙ ap (λ (x : Linking). Ok x.needed) same;
      read = bare.1;
      known = known.1 ∙ ap (λ (x : Linking). Ok x.versions) same;
      is = ap (λ (v : Option Versions). versioned bare.0 v) (sym (ap (λ (x : Linking). x.versions) same)) ∙ ap (λ (x : Linking). x.symbols) same;
    }

module _ (bytes : List ℕ) (o : Object) (at : ℕ) (is : IsAt bytes o at) where
  abbrev p : List ℕ
  p = as_program bytes

  abbrev file : List ℕ
  file = file_at at o bytes

  abbrev ts : List Tag
  ts = old_tags bytes o

  abbrev moved_tags : List Tag
  moved_tags = new_tags at bytes o

  abbrev fixed_segments : List Segment
  fixed_segments = map (fixed_segment at) o.segments

  abbrev fixed_sections : List Section
  fixed_sections = map (fixed_section at) o.sections

  abbrev all_kept : List Window
  all_kept = strings_of o ∷ section_at_tag bytes o DT_HASH ∷ section_at_tag bytes o DT_GNU_HASH ∷ section_at_tag bytes o DT_VERSYM ∷ section_at_tag bytes o DT_VERDEF ∷ section_at_tag bytes o DT_VERNEED ∷ window_if (slice_get o.sections o.header.shstrndx)

  six : (k : ℕ) → k < 6 → k < length all_kept
  six k lt = omega (arith, lt)

  abbrev d : Window
  d = record { at = 0; size = 0 }

  -- the bytes of a table whose size a section tells
  section_read : (number : ℕ) → is_address_tag number ≡ true → within (section_at_tag bytes o number) file ≡ within (section_at_tag bytes o number) p
      → loaded file fixed_segments (section_memory number moved_tags fixed_sections) ≡ loaded p o.segments (section_memory number ts o.sections)
  unfolding loaded
  section_read number address kept = alike_within _ _ file (section_alike bytes o at is number address) ∙ kept

  pub hash_read : loaded file fixed_segments (section_memory DT_HASH moved_tags fixed_sections) ≡ loaded p o.segments (section_memory DT_HASH ts o.sections)
  unfolding is_address_tag
  hash_read = section_read DT_HASH refl (kept_by bytes o at 1 d all_kept is (kept_are bytes o at is) (six 1 (omega arith)))

  pub gnu_hash_read : loaded file fixed_segments (section_memory DT_GNU_HASH moved_tags fixed_sections) ≡ loaded p o.segments (section_memory DT_GNU_HASH ts o.sections)
  unfolding is_address_tag
  gnu_hash_read = section_read DT_GNU_HASH refl (kept_by bytes o at 2 d all_kept is (kept_are bytes o at is) (six 2 (omega arith)))

  versym_read : loaded file fixed_segments (section_memory DT_VERSYM moved_tags fixed_sections) ≡ loaded p o.segments (section_memory DT_VERSYM ts o.sections)
  unfolding is_address_tag
  versym_read = section_read DT_VERSYM refl (kept_by bytes o at 3 d all_kept is (kept_are bytes o at is) (six 3 (omega arith)))

  verdef_read : loaded file fixed_segments (section_memory DT_VERDEF moved_tags fixed_sections) ≡ loaded p o.segments (section_memory DT_VERDEF ts o.sections)
  unfolding is_address_tag
  verdef_read = section_read DT_VERDEF refl (kept_by bytes o at 4 d all_kept is (kept_are bytes o at is) (six 4 (omega arith)))

  verneed_read : loaded file fixed_segments (section_memory DT_VERNEED moved_tags fixed_sections) ≡ loaded p o.segments (section_memory DT_VERNEED ts o.sections)
  unfolding is_address_tag
  verneed_read = section_read DT_VERNEED refl (kept_by bytes o at 5 d all_kept is (kept_are bytes o at is) (six 5 (omega arith)))

  strings_read : strings file fixed_segments moved_tags ≡ strings p o.segments ts
  unfolding strings loaded
  strings_read =
      alike_within _ _ file (strings_alike bytes o at is)
      ∙ ap (λ (w : Window). within w file) (sym (is.pie.accepted.tabled is.other).named.strings)
      ∙ kept_by bytes o at 0 d all_kept is (kept_are bytes o at is) (six 0 (omega arith))
      ∙ ap (λ (w : Window). within w p) (is.pie.accepted.tabled is.other).named.strings

  symbol_table_read : loaded file fixed_segments (symbols_memory moved_tags fixed_sections) ≡ within (symbols_of o) file
  unfolding loaded
  symbol_table_read = ap (λ (w : Window). within w file) (symbols_stay bytes o at is ∙ sym (is.pie.accepted.tabled is.other).named.symbols)

  symbol_table_there : within (symbols_of o) p ≡ loaded p o.segments (symbols_memory ts o.sections)
  unfolding loaded
  symbol_table_there = ap (λ (w : Window). within w p) (is.pie.accepted.tabled is.other).named.symbols

  symbols_again : (bare : List Symbol) → o.symbols ≡ versioned bare o.versions → symbols p o.segments o.sections ts ≡ Ok bare → symbols file fixed_segments fixed_sections moved_tags ≡ Ok (map (fixed_symbol at) bare)
  unfolding symbols
  symbols_again bare same e =
      let old = because_ok of_symbols (table.symbols (loaded p o.segments (symbols_memory ts o.sections)) (strings p o.segments ts)) bare e in
      let new = symbols_read at p o is.pie.accepted is.other is.are_bytes (strings p o.segments ts) bare o.versions same (ap (λ (xs : List ℕ). table.symbols xs (strings p o.segments ts)) symbol_table_there ∙ old) in
      rw (strings_read, symbol_table_read, new) refl

  table_versions_again : table_versions file fixed_segments fixed_sections moved_tags ≡ table_versions p o.segments o.sections ts
  unfolding table_versions
  table_versions_again = rw (strings_read, versym_read, verdef_read, verneed_read, count_kept at DT_VERDEF DT_VERDEFNUM ts plain_defs, count_kept at DT_VERNEED DT_VERNEEDNUM ts plain_needs) refl

  versions_again : (bare : List Symbol) → versions file fixed_segments fixed_sections moved_tags (map (fixed_symbol at) bare) ≡ versions p o.segments o.sections ts bare
  unfolding versions known_versions
  versions_again bare =
      rw (bad_kept at ts, has_moved at DT_VERSYM ts, table_versions_again, versym_read)
      (ap (λ (r : Result (Option Versions) Refusal). unless (bad_version_tags ts) (Clause 17 0) (if has_tag DT_VERSYM ts then r else Ok None))
      (bound_kept at (loaded p o.segments (section_memory DT_VERSYM ts o.sections)) bare (table_versions p o.segments o.sections ts)))

pub linking_again : (bytes : List ℕ) (o : Object) (at : ℕ) → IsAt bytes o at → linking (file_at at o bytes) (headers_of (fixed at o)) (new_tags at bytes o) ≡ Ok (linking_of (fixed at o))
unfolding fixed
linking_again bytes o at is =
    let l = linked (as_program bytes) (headers_of o) (old_tags bytes o) (linking_of o) is.names in
    linking_from (file_at at o bytes) (headers_of (fixed at o)) (new_tags at bytes o) o.needed (map (fixed_symbol at) l.bare) o.versions
    (ap (needed (new_tags at bytes o)) (strings_read bytes o at is) ∙ needed_kept at (old_tags bytes o) (strings (as_program bytes) o.segments (old_tags bytes o)) ∙ l.names)
    (symbols_again bytes o at is l.bare (sym l.is) l.read)
    (versions_again bytes o at is l.bare ∙ l.known)
    ∙ ap (λ (ss : List Symbol). Ok (record { needed = o.needed; symbols = ss; versions = o.versions })) (versioned_moved at l.bare o.versions ∙ ap (map (fixed_symbol at)) l.is)
