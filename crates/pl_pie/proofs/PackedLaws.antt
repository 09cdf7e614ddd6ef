-- The packed table of a fixed program names its places moved, and the word at each of them has the address.
use Rattle.std.proofs.Common.{◌≡◌, ℕ, zero, suc, ◌+◌, ◌*◌, ◌%◌, ◌<◌, ◌≤◌, Bool, true, false, List, [], ◌∷◌, ◌++◌, length, map, get_or, take, drop, Ok, refl, sym, ap, ◌∙◌, arith, inl, inr}
use Rattle.std.specs.Prelude.{◌==◌, not, nat_lt}
use Rattle.std.specs.Result.{is_ok}
use Rattle.std.proofs.lemmas.Bool.{cases_Bool, or_parts, ltb-false, true≢false}
use Rattle.std.proofs.lemmas.List.{length-drop, length-take-le, length-map, take-append-drop, drop_all, take_all, append-nil}
use Rattle.pl_base.specs.Bytes.{IsBytes, part, put, word64, bytes64}
use Rattle.pl_base.specs.Sums.{plus, is_aligned}
use Rattle.pl_base.specs.Windows.{AllIn, AreApart, IsApart}
use Rattle.pl_base.proofs.AnswerLaws.{refuse_none}
use Rattle.pl_base.proofs.WindowLaws.{AreAllApart, apart_turned, agree_within}
use Rattle.pl_base.proofs.WordLaws.{bytes64_word, word64_same, length_bytes64, is_bytes_take, is_bytes_drop}
use Rattle.pl_relr.specs.Entries.{entries, table_of}
use Rattle.pl_relr.specs.Moved as relr
use Rattle.pl_relr.specs.Moved.{moved_entry}
use Rattle.pl_relr.specs.Places.{places, begins_odd, unpacked}
use Rattle.pl_relr.specs.declared.fault.RelrFault.TheVariants.{Packed}
use Rattle.pl_relr.proofs.MoveLaws.{entries-moved, places-moved, moved-row}
use Rattle.pl_relr.proofs.PlaceLaws.{all_good}
use Rattle.pl_move.specs.Moves.{add8, rows, row_moved}
use Rattle.pl_move.specs.declared.kind.RowKind.TheVariants.{PackedAddress}
use Rattle.pl_move.proofs.MoveLaws.{length-add8, agree_add8}
use Rattle.pl_pie.specs.Words.{word_window}
use Rattle.pl_pie.specs.Fix.{added, word_windows}
use Rattle.pl_pie.proofs.WordLaws.{word_in}
use Rattle.pl_pie.proofs.ContentLaws.{within_added}
use Rattle.pl_pie.proofs.RowOfLaws.{moved64}

-- ---- the table

no_bytes : (xs : List ℕ) → length xs ≡ 0 → xs ≡ []
no_bytes [] e = refl
no_bytes (x ∷ xs) e = absurd (omega (arith, e))

moved_nothing : (w : ℕ) → relr.moved w [] ≡ []
unfolding relr.moved entries table_of
moved_nothing w = refl

-- one row
packed_row : (w : ℕ) (r : List ℕ) → length r ≡ 8 → IsBytes r → row_moved w PackedAddress r ≡ bytes64 (moved_entry w (word64 0 r))
unfolding row_moved moved_entry add8 put
packed_row w r n bytes = elim (cases_Bool (word64 0 r % 2 == 0)) [
  | inl even ↦
      let len = length_bytes64 (plus (word64 0 r) w) in
      let rest : drop (0 + length (bytes64 (plus (word64 0 r) w))) r ≡ [] = drop_all (0 + length (bytes64 (plus (word64 0 r) w))) r (omega (arith, len, n)) in
      rw even (ap (λ (ys : List ℕ). bytes64 (plus (word64 0 r) w) ++ ys) rest ∙ append-nil (bytes64 (plus (word64 0 r) w)))
  | inr odd ↦ rw odd (sym (bytes64_word 0 r (omega (arith, n)) bytes ∙ whole))
]
  where
    whole : part 0 8 r ≡ r
    whole = take_all 8 r (omega (arith, n))

pub rows_packed : (w n : ℕ) (xs : List ℕ) → length xs ≡ 8 * n → IsBytes xs → rows 8 (row_moved w PackedAddress) n xs ≡ relr.moved w xs
unfolding rows
rows_packed w zero xs size bytes = let none = no_bytes xs (omega (arith, size)) in none ∙ sym (ap (relr.moved w) none ∙ moved_nothing w)
rows_packed w (suc n) xs size bytes =
    let first : length (take 8 xs) ≡ 8 = length-take-le 8 xs (omega (arith, size)) in
    let rest = rows_packed w n (drop 8 xs) (omega (arith, length-drop 8 xs, size)) (is_bytes_drop 8 xs bytes) in
    ap (λ (r : List ℕ). r ++ rows 8 (row_moved w PackedAddress) n (drop 8 xs)) (packed_row w (take 8 xs) first (is_bytes_take 8 xs bytes))
    ∙ ap (λ (ys : List ℕ). bytes64 (moved_entry w (word64 0 (take 8 xs))) ++ ys) rest
    ∙ sym (moved-row w (take 8 xs) (drop 8 xs) first) ∙ ap (relr.moved w) (take-append-drop 8 xs)

-- the first entry stays even
begins_kept : (w : ℕ) (es : List ℕ) → w % 2 ≡ 0 → begins_odd (map (moved_entry w) es) ≡ begins_odd es
unfolding moved_entry
begins_kept w [] even = refl
begins_kept w (e ∷ es) even = elim (cases_Bool (e % 2 == 0)) [
  | inl hit ↦ let same : plus e w % 2 ≡ e % 2 = omega (arith, even) in rw (hit, same, hit) refl
  | inr miss ↦ rw (miss, miss) refl
]

pub unpacked_moved : (w most : ℕ) (table new : List ℕ) → w % 2 ≡ 0 → IsBytes table → new ≡ relr.moved w table → length new ≡ length table → is_ok (unpacked table most) ≡ true → unpacked new most ≡ Ok (map (λ place. plus place w) (places table))
unfolding unpacked
unpacked_moved w most table new even bytes is size ok =
    let none = refuse_none ((not (is_aligned (length table) 8), Packed) ∷ (begins_odd (entries table), Packed) ∷ (nat_lt most (length (places table)), Packed) ∷ []) (Ok (places table)) ok in
    let a = or_parts (not (is_aligned (length table) 8)) _ none in
    let b = or_parts (begins_odd (entries table)) _ a.1 in
    let c = or_parts (nat_lt most (length (places table))) false b.1 in
    let named : places new ≡ map (λ place. plus place w) (places table) = ap places is ∙ places-moved w table even bytes b.0 in
    let count : length (places new) ≡ length (places table) = ap length named ∙ length-map (places table) (λ place. plus place w) in
    let few : length (places table) ≤ most = ltb-false most (length (places table)) c.0 in
    let begins : begins_odd (entries new) ≡ false = ap begins_odd (ap entries is ∙ entries-moved w table bytes) ∙ begins_kept w (entries table) even ∙ b.0 in
    all_good new most (ap (λ (n : ℕ). is_aligned n 8) size ∙ true_of (is_aligned (length table) 8) a.0) begins (omega (arith, count, few)) ∙ ap (λ (ps : List ℕ). Ok ps) named
  where
    true_of : (b : Bool) → not b ≡ false → b ≡ true
    true_of true h = refl
    true_of false h = absurd (true≢false h)

-- ---- words apart from one another

pub added_each : (w : ℕ) (ats : List ℕ) (xs : List ℕ) (i d : ℕ) → AllIn (length xs) (word_windows ats) → AreAllApart (word_windows ats) → i < length ats → word64 (get_or ats i d) (added w ats xs) ≡ plus (word64 (get_or ats i d) xs) w
unfolding added
added_each w [] xs i d fits apart lt = absurd (omega (arith, lt))
added_each w (at ∷ ats) xs zero d fits apart lt =
    let len = length-add8 at w xs fits.0 in
    let same = within_added w ats (word_window at) (add8 at w xs) (rw len fits.1) (omega (arith, len, fits.0)) apart.0 in
    word64_same at at (added w ats (add8 at w xs)) (add8 at w xs) same ∙ moved64 at w xs fits.0
added_each w (at ∷ ats) xs (suc i) d fits apart lt =
    let len = length-add8 at w xs fits.0 in
    added_each w ats (add8 at w xs) i d (rw len fits.1) apart.1 (omega (arith, lt)) ∙ ap (λ (n : ℕ). plus n w) (kept (get_or ats i d) (word_in (length xs) ats i d fits.1 (omega (arith, lt))) (away ats i d apart.0 (omega (arith, lt))))
  where
    kept : (b : ℕ) → b + 8 ≤ length xs → AreApart (word_window at) (word_window b) → word64 b (add8 at w xs) ≡ word64 b xs
    kept b fits' apart' = word64_same b b (add8 at w xs) xs (agree_within (word_window b) (word_window at ∷ []) (add8 at w xs) xs (agree_add8 at w xs fits.0) fits' (apart_turned (word_window at) (word_window b) apart', tt))

    away : (us : List ℕ) (i d : ℕ) → IsApart (word_window at) (word_windows us) → i < length us → AreApart (word_window at) (word_window (get_or us i d))
    away [] i d h lt' = absurd (omega (arith, lt'))
    away (u ∷ us) zero d h lt' = h.0
    away (u ∷ us) (suc i) d h lt' = away us i d h.1 (omega (arith, lt'))
