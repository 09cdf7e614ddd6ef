-- The word at each packed place of a fixed file is the program's with the address added.
use Rattle.std.proofs.Common.{◌≡◌, ℕ, zero, suc, ◌+◌, ◌-◌, ◌^◌, ◌<◌, ◌≤◌, Bool, false, List, [], ◌∷◌, ◌++◌, length, map, drop, get_or, refl, sym, ap, subst, ◌∙◌, arith}
use Rattle.std.specs.Prelude.{◌==◌, not, if◌then◌else◌}
use Rattle.std.specs.List.{All, list_any}
use Rattle.std.proofs.lemmas.Bool.{or_parts, leb-true}
use Rattle.std.proofs.lemmas.List.{drop-map}
use Rattle.pl_base.specs.Bytes.{word64}
use Rattle.pl_base.specs.Sums.{plus}
use Rattle.pl_base.specs.Windows.{Window, within, end_of, share, any_share, IsIn, AllIn, AreApart, IsApart}
use Rattle.pl_base.proofs.WindowLaws.{AreAllApart, apart_turned, length-within}
use Rattle.pl_base.proofs.WordLaws.{word64_same, word64_part}
use Rattle.pl_elf.specs.Clauses.{overlap_in_file}
use Rattle.pl_elf.specs.Kinds.{is_static}
use Rattle.pl_elf.specs.declared.segment.Segment.{Segment}
use Rattle.pl_relr.specs.Places as relr
use Rattle.pl_object.specs.Accepted.{Accepted, tags_of}
use Rattle.pl_object.specs.FilePart.{file_window, loaded}
use Rattle.pl_object.specs.PlaceClauses.{is_held, reloc_outside, reloc_overlap, last_packed}
use Rattle.pl_object.specs.Relocations.{place, places, packed_relocs, file_word, word_of}
use Rattle.pl_object.specs.TableClauses.{relr_table}
use Rattle.pl_object.specs.declared.object.Object.{Object}
use Rattle.pl_object.specs.declared.reloc.Reloc.{Reloc}
use Rattle.pl_object.proofs.ExtentLaws.{file_window_in}
use Rattle.pl_move.specs.Moves.{table_windows, all_moved}
use Rattle.pl_move.specs.Objects.{main_tables, tables_of, LieIn}
use Rattle.pl_move.specs.declared.kind.RowKind.TheVariants.{TagValue, SymbolValue, RelocationPlace, RelativeAddend, PackedAddress}
use Rattle.pl_move.proofs.MoveLaws.{length-all_moved}
use Rattle.pl_move.proofs.ObjectLaws.{tables_in, all_in_parts}
use Rattle.pl_form.specs.Back.{spot_windows}
use Rattle.pl_form.specs.Loads.{spot_of, spots_of}
use Rattle.pl_form.proofs.OverlapLaws.{spots_apart}
use Rattle.law_fixed.specs.Fixed.{fixed_segment}
use Rattle.law_fixed.specs.Stays.{Stands}
use Rattle.pl_pie.specs.Words.{word_window, section_words, undefined_words, packed_words, other_words}
use Rattle.pl_pie.specs.Fix.{added, word_windows}
use Rattle.pl_pie.proofs.WordLaws.{word_in, length-added}
use Rattle.pl_pie.proofs.InsideLaws.{packed_is, packed_in, words_in, whole_at, word_windows-append}
use Rattle.pl_pie.proofs.ContentLaws.{Told, within_added, added-append}
use Rattle.pl_pie.proofs.OwnLaws.{all_windows, within_tables, sections_apart, undefined_apart, packed_apart, entry_apart, rows_sub}
use Rattle.pl_pie.proofs.PackedLaws.{added_each}
use Rattle.pl_pie.proofs.RebasedLaws.{rebased, rebased_length}
use Rattle.pl_pie.proofs.MemoryLaws.{window_stays}

-- ---- windows apart from words

away : (v : Window) (us : List ℕ) (i d : ℕ) → IsApart v (word_windows us) → i < length us → AreApart v (word_window (get_or us i d))
away v [] i d h lt = absurd (omega (arith, lt))
away v (u ∷ us) zero d h lt = h.0
away v (u ∷ us) (suc i) d h lt = away v us i d h.1 (omega (arith, lt))

both_apart : (v : Window) (xs ys : List ℕ) → IsApart v (word_windows xs) → IsApart v (word_windows ys) → IsApart v (word_windows (xs ++ ys))
both_apart v [] ys a b = b
both_apart v (x ∷ xs) ys a b = (a.0, both_apart v xs ys a.1 b)

pairs_dropped : (n : ℕ) (ws : List Window) → any_share ws ≡ false → any_share (drop n ws) ≡ false
pairs_dropped zero ws none = none
pairs_dropped (suc n) [] none = refl
pairs_dropped (suc n) (w ∷ ws) none = pairs_dropped n ws (or_parts (list_any (share w) ws) (any_share ws) none).1

-- ---- the words at packed places

abbrev spots_in : List Segment → List Reloc → List ℕ
spots_in ss rs = map (λ r. (file_window ss (place r)).at) rs

abbrev out_of : List Segment → Window → Bool
out_of ss m = not (is_held false ss m)

abbrev word_at : ℕ → Window
word_at a = record { at = a; size = 8 }

spots_are : (p : List ℕ) (ss : List Segment) (us : List ℕ) → list_any (out_of ss) (places (packed_relocs p ss us)) ≡ false → spot_windows (spots_of ss 0 (places (packed_relocs p ss us))) ≡ word_windows (spots_in ss (packed_relocs p ss us))
unfolding packed_relocs spot_of
spots_are p ss [] none = refl
spots_are p ss (a ∷ us) none =
    let m : Window = word_at a in
    let q = or_parts (out_of ss m) (list_any (out_of ss) (places (packed_relocs p ss us))) none in
    ap (λ (n : ℕ). record { at = (file_window ss m).at; size = n } ∷ spot_windows (spots_of ss 0 (places (packed_relocs p ss us)))) (whole_at ss m q.0)
    ∙ ap (λ (ws : List Window). word_window (file_window ss m).at ∷ ws) (spots_are p ss us q.1)

nth : (p : List ℕ) (ss : List Segment) (us : List ℕ) (k d : ℕ) → k < length us → get_or (spots_in ss (packed_relocs p ss us)) k 0 ≡ (file_window ss (word_at (get_or us k d))).at
unfolding packed_relocs
nth p ss [] k d lt = absurd (omega (arith, lt))
nth p ss (a ∷ us) zero d lt = refl
nth p ss (a ∷ us) (suc k) d lt = nth p ss us k d (omega (arith, lt))

count_of : (p : List ℕ) (ss : List Segment) (us : List ℕ) → length (spots_in ss (packed_relocs p ss us)) ≡ length us
unfolding packed_relocs
count_of p ss [] = refl
count_of p ss (a ∷ us) = ap suc (count_of p ss us)

whole_nth : (p : List ℕ) (ss : List Segment) (us : List ℕ) (k d : ℕ) → list_any (out_of ss) (places (packed_relocs p ss us)) ≡ false → k < length us → (file_window ss (word_at (get_or us k d))).size ≡ 8
unfolding packed_relocs
whole_nth p ss [] k d none lt = absurd (omega (arith, lt))
whole_nth p ss (a ∷ us) zero d none lt = whole_at ss (word_at a) (or_parts (out_of ss (word_at a)) (list_any (out_of ss) (places (packed_relocs p ss us))) none).0
whole_nth p ss (a ∷ us) (suc k) d none lt = whole_nth p ss us k d (or_parts (out_of ss (word_at a)) (list_any (out_of ss) (places (packed_relocs p ss us))) none).1 (omega (arith, lt))

-- the word of a window that is one
word_whole : (xs : List ℕ) (v : Window) → IsIn (length xs) v → v.size ≡ 8 → word_of (within v xs) ≡ word64 v.at xs
word_whole xs v inside whole =
    let len : length (within v xs) ≡ 8 = length-within v xs inside ∙ whole in
    let start : v.at + 0 ≡ v.at = omega arith in
    ap (λ (n : ℕ). if n == 8 then word64 0 (within v xs) else 0) len ∙ word64_part v.at v.size 0 xs (omega (arith, whole)) ∙ ap (λ (k : ℕ). word64 k xs) start

module _ (at : ℕ) (p : List ℕ) (o : Object) (is : Accepted p o) (other : is_static o.kind ≡ false) where
  abbrev ss : List Segment
  ss = o.segments

  -- ---- a packed word is apart from all tables

  spot_apart : (k d : ℕ) (vs : List Window) → ((w : Window) → IsApart w (all_windows o) → IsApart w vs) → k < length (packed_words o) → IsApart (word_window (get_or (packed_words o) k d)) vs
  spot_apart k d [] pick lt = tt
  spot_apart k d (v ∷ vs) pick lt =
      (apart_turned v (word_window (get_or (packed_words o) k d)) (away v (packed_words o) k d (packed_apart p o v is other (λ w h. (pick w h).0)) lt), spot_apart k d vs (λ w h. (pick w h).1) lt)

  clear : (k d : ℕ) → k < length (packed_words o) → IsApart (word_window (get_or (packed_words o) k d)) (all_windows o)
  clear k d lt = spot_apart k d (all_windows o) (λ w h. h) lt

  told_none : (v : Window) → IsApart v (all_windows o) → Told v (table_windows (main_tables o)) (false ∷ false ∷ false ∷ false ∷ false ∷ false ∷ false ∷ false ∷ false ∷ false ∷ [])
  unfolding main_tables
  told_none v a =
      (entry_apart v o.entry a.1.0, (a.1.1.0, (a.1.1.0, (rows_sub TagValue _ _ a.1.1.1.1.0, (rows_sub SymbolValue _ _ a.1.1.1.1.1.0, (rows_sub RelocationPlace _ _ a.1.1.1.1.1.1.0, (rows_sub RelativeAddend _ _ a.1.1.1.1.1.1.0, (rows_sub RelocationPlace _ _ a.1.1.1.1.1.1.1.0, (rows_sub RelativeAddend _ _ a.1.1.1.1.1.1.1.0, (rows_sub PackedAddress _ _ a.0, tt))))))))))

  abbrev moved_tables : List ℕ
  moved_tables = all_moved at (tables_of o) p

  lie : LieIn (length p) o
  lie = tables_in p o is other

  same_length : length moved_tables ≡ length p
  same_length = length-all_moved at (tables_of o) p lie

  tables_clear : (v : Window) → IsIn (length p) v → IsApart v (all_windows o) → within v moved_tables ≡ within v p
  unfolding main_tables
  tables_clear v inside a = within_tables at p o v (false ∷ false ∷ false ∷ false ∷ false ∷ false ∷ false ∷ false ∷ false ∷ false ∷ []) lie inside a.1.1.1.1.1.1.1.1 (told_none v a)

  -- ---- and from the other words

  abbrev front : List ℕ
  front = section_words o ++ undefined_words o

  front_fits : AllIn (length p) (word_windows front)
  unfolding other_words
  front_fits = (all_in_parts (length p) (word_windows front) (word_windows (packed_words o)) (subst (AllIn (length p)) (word_windows-append front (packed_words o)) (words_in p o is other))).0

  front_clear : (v : Window) → IsApart v (all_windows o) → IsApart v (word_windows front)
  front_clear v a = both_apart v (section_words o) (undefined_words o) (sections_apart p o v is a.1.1.1.0) (undefined_apart p o v is other a.1.1.1.1.1.0)

  abbrev with_front : List ℕ
  with_front = added at front moved_tables

  front_length : length with_front ≡ length p
  front_length = length-added at front moved_tables (rw same_length front_fits) ∙ same_length

  before : (v : Window) → IsIn (length p) v → IsApart v (all_windows o) → within v with_front ≡ within v p
  before v inside a =
      within_added at front v moved_tables (rw same_length front_fits) (omega (arith, inside, same_length)) (front_clear v a) ∙ tables_clear v inside a

  whole : rebased at o p ≡ added at (packed_words o) with_front
  unfolding other_words
  whole = added-append at front (packed_words o) moved_tables

  -- ---- and from one another

  abbrev addresses : List ℕ
  addresses = relr.places (relr_table p o.segments (tags_of p o))

  abbrev last : List Reloc
  last = packed_relocs p o.segments addresses

  same_last : last_packed o.packed o.relocations ≡ last
  same_last = packed_is p o is other

  held : list_any (out_of o.segments) (places last) ≡ false
  unfolding reloc_outside
  held = subst (λ (rs : List Reloc). list_any (out_of o.segments) (places rs) ≡ false) same_last is.packed_held

  none_share : any_share (places last) ≡ false
  unfolding reloc_overlap
  none_share =
      let n : ℕ = length o.relocations - o.packed in
      subst (λ (rs : List Reloc). any_share (places rs) ≡ false) same_last (ap any_share (sym (drop-map place n o.relocations)) ∙ pairs_dropped n (places o.relocations) is.apart)

  words_are : packed_words o ≡ spots_in o.segments last
  unfolding packed_words
  words_are = ap (spots_in o.segments) same_last

  words_apart : AreAllApart (word_windows (packed_words o))
  unfolding overlap_in_file
  words_apart =
      subst (λ (us : List ℕ). AreAllApart (word_windows us)) (sym words_are)
      (subst AreAllApart (spots_are p o.segments addresses held) (spots_apart o.segments 0 (places last) is.files_apart none_share))

  -- ---- the word

  word_added : (k d : ℕ) → k < length (packed_words o) → word64 (get_or (packed_words o) k d) (rebased at o p) ≡ plus (word64 (get_or (packed_words o) k d) p) at
  word_added k d lt =
      let b : ℕ = get_or (packed_words o) k d in
      let inside : b + 8 ≤ length p = word_in (length p) (packed_words o) k d (packed_in p o is other) lt in
      ap (word64 b) whole
      ∙ added_each at (packed_words o) with_front k d (rw front_length (packed_in p o is other)) words_apart lt
      ∙ ap (λ (n : ℕ). plus n at) (word64_same b b with_front p (before (word_window b) inside (clear k d lt)))

  pub word_again : (k d : ℕ) → All (Stands at) o.segments → k < length addresses → get_or addresses k d < 2 ^ 64
      → file_word (rebased at o p) (map (fixed_segment at) o.segments) (plus (get_or addresses k d) at) ≡ plus (file_word p o.segments (get_or addresses k d)) at
  unfolding file_word loaded
  word_again k d stands lt low =
      let m : Window = word_at (get_or addresses k d) in
      let v : Window = file_window o.segments m in
      let size : v.size ≡ 8 = whole_nth p o.segments addresses k d held lt in
      let inside : IsIn (length p) v = leb-true (end_of v) (length p) (file_window_in p o.segments m (is.tabled other).files) in
      let file_size = rebased_length at p o is other in
      let here : get_or (packed_words o) k 0 ≡ v.at = ap (λ (us : List ℕ). get_or us k 0) words_are ∙ nth p o.segments addresses k d lt in
      let few : k < length (packed_words o) = omega (arith, lt, ap (λ (us : List ℕ). length us) words_are, count_of p o.segments addresses) in
      ap (λ (w : Window). word_of (within w (rebased at o p))) (window_stays at o.segments stands m low)
      ∙ word_whole (rebased at o p) v (omega (arith, inside, file_size)) size
      ∙ ap (λ (b : ℕ). word64 b (rebased at o p)) (sym here) ∙ word_added k 0 few ∙ ap (λ (b : ℕ). plus (word64 b p) at) here
      ∙ sym (ap (λ (n : ℕ). plus n at) (word_whole p v inside size))
