-- The strings, the hash and version tables and the section names of a fixed file are those of the program.
use Rattle.std.proofs.Common.{◌≡◌, ℕ, ◌+◌, ◌%◌, ◌<◌, Bool, true, false, List, [], ◌∷◌, length, get_or, refl, sym, subst, ◌∙◌, arith}
use Rattle.std.specs.Prelude.{◌||◌, ◌&&◌, not}
use Rattle.std.specs.List.{list_any, range_with_len}
use Rattle.std.proofs.lemmas.Bool.{true≢false, or_parts, or_from}
use Rattle.std.proofs.lemmas.List.FromFn.{length-range_with_len, get_or-range_with_len}
use Rattle.pl_base.specs.Bytes.{part}
use Rattle.pl_base.specs.Windows.{Window, within, holds, share, AllIn}
use Rattle.pl_base.proofs.WindowLaws.{not_share, part_same}
use Rattle.pl_object.specs.Accepted.{tags_of}
use Rattle.pl_object.specs.TableClauses.{meets}
use Rattle.pl_object.specs.declared.object.Object.{Object}
use Rattle.pl_value.proofs.LoneLaws.{none_at}
use Rattle.pl_move.specs.Moves.{row_size, word_offset, moves, all_moved}
use Rattle.pl_move.specs.Objects.{tables_of, LieIn}
use Rattle.pl_move.specs.declared.table.Table.{Table}
use Rattle.pl_move.proofs.MoveLaws.{length-all_moved}
use Rattle.pl_move.proofs.ObjectLaws.{tables_in}
use Rattle.pl_pie.specs.Words.{word_window, type_window, row_start, row_meets, table_meets, tables_meet, others_meet, other_words}
use Rattle.pl_pie.specs.Pie.{as_program, begins_low, has_loaded_symbols, loads_sections, kept_windows, writes_kept, is_laid_out}
use Rattle.pl_pie.specs.Fix.{word_windows}
use Rattle.pl_pie.proofs.PieLaws.{IsPie, not_static, and_both, not_true}
use Rattle.pl_pie.proofs.InsideLaws.{words_in}
use Rattle.pl_pie.proofs.HiddenLaws.{apart_out, holds_in, added_out}
use Rattle.pl_pie.proofs.OwnLaws.{all_apart}
use Rattle.pl_pie.proofs.RebasedLaws.{rebased, rebased_length}
use Rattle.pl_pie.proofs.KeptLaws.{AllClear, all_bytes, tables_leave}

-- ---- a byte of a window that is not met

none_in_range : (f : ℕ → Bool) (n i : ℕ) → list_any f (range_with_len 0 n) ≡ false → i < n → f i ≡ false
none_in_range f n i none lt =
    let at : get_or (range_with_len 0 n) i 0 ≡ 0 + i = get_or-range_with_len 0 n i 0 lt in
    let here : 0 + i ≡ i = omega arith in
    subst (λ (k : ℕ). f k ≡ false) (at ∙ here) (none_at f (range_with_len 0 n) i 0 (omega (arith, lt, length-range_with_len 0 n)) none)

unmet_out : (j i : ℕ) (ws : List Window) (d w : Window) → meets ws w ≡ false → i < length ws → holds j (get_or ws i d) ≡ true → holds j w ≡ false
unmet_out j i ws d w none lt hit = apart_out j w (get_or ws i d) (not_share w (get_or ws i d) (none_at (share w) ws i d lt none)) hit

unless_moved : (a b : Bool) → (a && b) ≡ false → a ≡ true → b ≡ false
unless_moved true b h e = h
unless_moved false b h e = absurd (true≢false (sym e))

clear_from : (j k : ℕ) (ws : List Window) (d : Window) (p : List ℕ) (ts : List Table) → k < length ws → holds j (get_or ws k d) ≡ true → list_any (table_meets ws p) ts ≡ false → AllClear j p ts
unfolding table_meets row_meets
clear_from j k ws d p [] lt hit none = tt
clear_from j k ws d p (t ∷ ts) lt hit none =
    let q = or_parts (table_meets ws p t) (list_any (table_meets ws p) ts) none in
    (λ i few moved. unmet_out j k ws d (word_window (row_start t i + word_offset t.kind)) (row i few moved q.0) lt hit, clear_from j k ws d p ts lt hit q.1)
  where
    row : (i : ℕ) → i < t.count → moves t.kind (part (row_start t i) (row_size t.kind) p) ≡ true → table_meets ws p t ≡ false → meets ws (word_window (row_start t i + word_offset t.kind)) ≡ false
    row i few moved none = unless_moved _ _ (none_in_range (row_meets ws p t) t.count i none few) moved

words_clear : (j k : ℕ) (ws : List Window) (d : Window) (ats : List ℕ) → k < length ws → holds j (get_or ws k d) ≡ true → list_any (λ at. meets ws (word_window at)) ats ≡ false → list_any (holds j) (word_windows ats) ≡ false
words_clear j k ws d [] lt hit none = refl
words_clear j k ws d (at ∷ ats) lt hit none =
    let q = or_parts (meets ws (word_window at)) (list_any (λ b. meets ws (word_window b)) ats) none in
    or_from _ _ (unmet_out j k ws d (word_window at) q.0 lt hit) (words_clear j k ws d ats lt hit q.1)

-- ---- the windows

pub kept_unmet : (bytes : List ℕ) (o : Object) → IsPie bytes o → (tables_meet (kept_windows o) (as_program bytes) o ≡ false) × (others_meet (kept_windows o) o ≡ false)
unfolding is_laid_out writes_kept
kept_unmet bytes o is =
    let ws : List Window = kept_windows o in
    let p = as_program bytes in
    let all = meets ws type_window || tables_meet ws p o || others_meet ws o in
    let a = and_both (begins_low o && has_loaded_symbols o && not (loads_sections o)) (not all) is.laid_out in
    let q = or_parts (meets ws type_window || tables_meet ws p o) (others_meet ws o) (not_true all a.1) in
    ((or_parts (meets ws type_window) (tables_meet ws p o) q.0).1, q.1)

-- a window among them has its bytes
pub kept_within : (bytes : List ℕ) (o : Object) (at k : ℕ) (d : Window) → IsPie bytes o → at % 2 ≡ 0 → k < length (kept_windows o) → within (get_or (kept_windows o) k d) (rebased at o (as_program bytes)) ≡ within (get_or (kept_windows o) k d) (as_program bytes)
unfolding tables_meet others_meet
kept_within bytes o at k d is even lt =
    let p = as_program bytes in
    let ws : List Window = kept_windows o in
    let v : Window = get_or ws k d in
    let other = not_static o.kind is.program in
    let unmet = kept_unmet bytes o is in
    let lie : LieIn (length p) o = tables_in p o is.accepted other in
    let moved : List ℕ = all_moved at (tables_of o) p in
    let len : length moved ≡ length p = length-all_moved at (tables_of o) p lie in
    let inside : AllIn (length moved) (word_windows (other_words o)) = rw len (words_in p o is.accepted other) in
    let apart = all_apart p o (tags_of p o) (is.accepted.tabled other) in
    part_same v.at v.size (rebased at o p) p (rebased_length at p o is.accepted other) (λ j from to.
    let hit : holds j v ≡ true = holds_in j v.at v.size from to in
    added_out at (other_words o) moved j inside (words_clear j k ws d (other_words o) lt hit unmet.1)
    ∙ all_bytes at (tables_of o) p j even lie (tables_leave o apart) (clear_from j k ws d p (tables_of o) lt hit unmet.0))
