-- What stands in one window of a file whose tables moved and to whose words a number was added.
use Rattle.std.proofs.Common.{◌≡◌, ℕ, zero, suc, ◌+◌, ◌-◌, ◌*◌, ◌<◌, ◌≤◌, Bool, true, false, List, [], ◌∷◌, ◌++◌, length, map, get_or, take, drop, refl, sym, ap, subst, ◌∙◌, arith, inl, inr}
use Rattle.std.specs.Prelude.{◌⊎◌, filter, if◌then◌else◌}
use Rattle.std.specs.List.{All, range_with_len}
use Rattle.std.proofs.Math.Nat.{mul-le-mul_left}
use Rattle.std.proofs.lemmas.Bool.{cases_Bool, cases_lt}
use Rattle.std.proofs.lemmas.List.{ext_get_or, length-drop, length-take-le, drop-drop, take_all}
use Rattle.std.proofs.lemmas.List.Elements.{All-head, All-tail}
use Rattle.std.proofs.lemmas.List.FromFn.{length-range_with_len, get_or-range_with_len}
use Rattle.pl_base.specs.Bytes.{part, put, bytes64, word64}
use Rattle.pl_base.specs.Sums.{plus}
use Rattle.pl_base.specs.Windows.{Window, within, on, IsIn, AllIn, AreApart, IsApart}
use Rattle.pl_base.proofs.WindowLaws.{length-put, put_in, put_out, length-within, agree_same, agree_within, within_put, part_byte, length-part, part_apart, part_part, part_front, part_behind}
use Rattle.pl_base.proofs.WordLaws.{length_bytes64, word64_part}
use Rattle.pl_move.specs.Moves.{add8, rows, row_size, row_moved, table_window, table_windows, moved, all_moved}
use Rattle.pl_move.specs.declared.table.Table.{Table}
use Rattle.pl_move.proofs.MoveLaws.{length-add8, agree_add8, length-rows, length-row_moved, length-moved, moved_agrees}
use Rattle.pl_pie.specs.Words.{word_window}
use Rattle.pl_pie.specs.Fix.{added, word_windows}

-- ---- a part of what is put

-- inside of it
part_put : (at k n : ℕ) (new xs : List ℕ) → at + length new ≤ length xs → k + n ≤ length new → part (at + k) n (put at new xs) ≡ part k n new
part_put at k n new xs fits inside = sym (part_part at (length new) k n (put at new xs) inside) ∙ ap (part k n) (within_put at new xs fits)

-- around it
part_of_put : (at k size : ℕ) (new xs : List ℕ) → k + length new ≤ size → at + size ≤ length xs → part at size (put (at + k) new xs) ≡ put k new (part at size xs)
part_of_put at k size new xs inside fits =
    let room : at + k + length new ≤ length xs = omega (arith, inside, fits) in
    let whole : length (put (at + k) new xs) ≡ length xs = length-put (at + k) new xs room in
    let old : List ℕ = part at size xs in
    let len_old : length old ≡ size = length-part at size xs fits in
    let left : length (part at size (put (at + k) new xs)) ≡ size = length-part at size (put (at + k) new xs) (omega (arith, whole, fits)) in
    let right : length (put k new old) ≡ size = length-put k new old (omega (arith, len_old, inside)) ∙ len_old in
    ext_get_or 0 (part at size (put (at + k) new xs)) (put k new old) (left ∙ sym right) (λ i lt. each i (omega (arith, lt, left)))
  where
    old_room : k + length new ≤ length (part at size xs)
    old_room = omega (arith, length-part at size xs fits, inside)

    out : (i : ℕ) → i < size → (i < k) ⊎ (k + length new ≤ i) → (at + i < at + k) ⊎ (at + k + length new ≤ at + i) → get_or (put (at + k) new xs) (at + i) 0 ≡ get_or (put k new (part at size xs)) i 0
    out i lt here there = put_out (at + k) new xs (at + i) (omega (arith, inside, fits)) there ∙ sym (put_out k new (part at size xs) i old_room here ∙ part_byte at size xs i lt)

    each : (i : ℕ) → i < size → get_or (part at size (put (at + k) new xs)) i 0 ≡ get_or (put k new (part at size xs)) i 0
    each i lt = part_byte at size (put (at + k) new xs) i lt ∙ elim (cases_lt i k) [
      | inl low ↦ out i lt (inl low) (inl (omega (arith, low)))
      | inr le ↦ elim (cases_lt i (k + length new)) [
        | inr high ↦ out i lt (inr high) (inr (omega (arith, high)))
        | inl mid ↦
            let index : at + i - (at + k) ≡ i - k = omega arith in
            put_in (at + k) new xs (at + i) (omega (arith, inside, fits)) (omega (arith, le)) (omega (arith, mid))
            ∙ ap (λ (j : ℕ). get_or new j 0) index
            ∙ sym (put_in k new (part at size xs) i old_room le mid)
      ]
    ]

-- a word in a row
row_add8 : (at k size w : ℕ) (xs : List ℕ) → k + 8 ≤ size → at + size ≤ length xs → part at size (add8 (at + k) w xs) ≡ add8 k w (part at size xs)
unfolding add8
row_add8 at k size w xs inside fits =
    let len = length_bytes64 (plus (word64 (at + k) xs) w) in
    part_of_put at k size (bytes64 (plus (word64 (at + k) xs) w)) xs (omega (arith, inside, len)) fits
    ∙ ap (λ (n : ℕ). put k (bytes64 (plus n w)) (part at size xs)) (sym (word64_part at size k xs inside))

-- a word apart from a row
pub row_kept : (at size to w : ℕ) (xs : List ℕ) → to + 8 ≤ length xs → (at + size ≤ to) ⊎ (to + 8 ≤ at) → part at size (add8 to w xs) ≡ part at size xs
unfolding add8
row_kept at size to w xs fits (inl before) =
    let len = length_bytes64 (plus (word64 to xs) w) in
    part_apart at size to (bytes64 (plus (word64 to xs) w)) xs (omega (arith, fits, len)) (inl before)
row_kept at size to w xs fits (inr behind) =
    let len = length_bytes64 (plus (word64 to xs) w) in
    part_apart at size to (bytes64 (plus (word64 to xs) w)) xs (omega (arith, fits, len)) (inr (omega (arith, behind, len)))

-- ---- rows of a table

pub row_at : (size : ℕ) (f : List ℕ → List ℕ) (n i : ℕ) (xs : List ℕ) → ((r : List ℕ) → length r ≡ size → length (f r) ≡ size) → size * n ≤ length xs → i < n → part (size * i) size (rows size f n xs) ≡ f (part (size * i) size xs)
unfolding rows
row_at size f zero i xs keeps fits lt = absurd (omega (arith, lt))
row_at size f (suc n) zero xs keeps fits lt =
    let len : length (f (take size xs)) ≡ size = keeps (take size xs) (length-take-le size xs (omega (arith, fits))) in
    let start : size * 0 ≡ 0 = omega arith in
    ap (λ (k : ℕ). part k size (f (take size xs) ++ rows size f n (drop size xs))) start
    ∙ part_front 0 size (f (take size xs)) (rows size f n (drop size xs)) (omega (arith, len))
    ∙ take_all size (f (take size xs)) (omega (arith, len))
    ∙ ap (λ (k : ℕ). f (part k size xs)) (sym start)
row_at size f (suc n) (suc i) xs keeps fits lt =
    let row : List ℕ = f (take size xs) in
    let rest : List ℕ = rows size f n (drop size xs) in
    let len : length row ≡ size = keeps (take size xs) (length-take-le size xs (omega (arith, fits))) in
    let there : size * suc i ≡ length row + size * i = omega (arith, len) in
    let past : size + size * i ≡ size * suc i = omega arith in
    ap (λ (k : ℕ). part k size (row ++ rest)) there
    ∙ part_behind (size * i) size row rest
    ∙ row_at size f n i (drop size xs) keeps (omega (arith, fits, length-drop size xs)) (omega (arith, lt))
    ∙ ap (λ (ys : List ℕ). f (take size ys)) (drop-drop (size * i) size xs ∙ ap (λ (k : ℕ). drop k xs) past)

pub row_room : (size i count : ℕ) → i < count → size * i + size ≤ size * count
row_room size i count lt = let le : size * suc i ≤ size * count = mul-le-mul_left {m = suc i} {n = count} size (omega (arith, lt)) in omega (arith, le)

-- ---- words of rows

module _ (w base size k : ℕ) (q : ℕ → Bool) (inside : k + 8 ≤ size) where
  abbrev words_from : ℕ → ℕ → List ℕ
  words_from j m = map (λ i. base + size * i + k) (filter q (range_with_len j m))

  abbrev row : ℕ → List ℕ → List ℕ
  row i xs = part (base + size * i) size xs

  end_at : (i n : ℕ) (xs : List ℕ) → i < n → base + size * n ≤ length xs → base + size * i + size ≤ length xs
  end_at i n xs lt fits = let room = row_room size i n lt in omega (arith, room, fits)

  -- the word of a later row does not touch this one
  other_row : (i j n : ℕ) (xs : List ℕ) → i < j → j < n → base + size * n ≤ length xs → row i (add8 (base + size * j + k) w xs) ≡ row i xs
  other_row i j n xs lt below fits =
      let room = row_room size i j lt in
      row_kept (base + size * i) size (base + size * j + k) w xs (omega (arith, inside, end_at j n xs below fits)) (inl (omega (arith, room)))

  -- nor that of an earlier one
  earlier_row : (i j n : ℕ) (xs : List ℕ) → j < i → i < n → base + size * n ≤ length xs → row i (add8 (base + size * j + k) w xs) ≡ row i xs
  earlier_row i j n xs lt below fits =
      let room = row_room size j i lt in
      row_kept (base + size * i) size (base + size * j + k) w xs (omega (arith, inside, room, end_at i n xs below fits)) (inr (omega (arith, inside, room)))

  word_room : (j n : ℕ) (xs : List ℕ) → j < n → base + size * n ≤ length xs → base + size * n ≤ length (add8 (base + size * j + k) w xs)
  word_room j n xs lt fits =
      let len = length-add8 (base + size * j + k) w xs (omega (arith, inside, end_at j n xs lt fits)) in
      omega (arith, len, fits)

  before_them : (j m i n : ℕ) (xs : List ℕ) → i < j → j + m ≤ n → base + size * n ≤ length xs → row i (added w (words_from j m) xs) ≡ row i xs
  unfolding added
  before_them j zero i n xs lt le fits = refl
  before_them j (suc m) i n xs lt le fits =
      let below : j < n = omega (arith, le) in
      elim (cases_Bool (q j)) [
        | inl hit ↦ rw hit (before_them (j + 1) m i n (add8 (base + size * j + k) w xs) (omega (arith, lt)) (omega (arith, le)) (word_room j n xs below fits) ∙ other_row i j n xs lt below fits)
        | inr miss ↦ rw miss (before_them (j + 1) m i n xs (omega (arith, lt)) (omega (arith, le)) fits)
      ]

  among_them : (j m i n : ℕ) (xs : List ℕ) → j ≤ i → i < j + m → j + m ≤ n → base + size * n ≤ length xs → row i (added w (words_from j m) xs) ≡ (if q i then add8 k w (row i xs) else row i xs)
  unfolding added
  among_them j zero i n xs from to le fits = absurd (omega (arith, from, to))
  among_them j (suc m) i n xs from to le fits =
      let below : j < n = omega (arith, le) in
      elim (cases_lt j i) [
        | inl past ↦ elim (cases_Bool (q j)) [
          | inl hit ↦
              let here : row i (add8 (base + size * j + k) w xs) ≡ row i xs = earlier_row i j n xs past (omega (arith, to, le)) fits in
              rw hit (among_them (j + 1) m i n (add8 (base + size * j + k) w xs) (omega (arith, past)) (omega (arith, to)) (omega (arith, le)) (word_room j n xs below fits) ∙ ap (λ (r : List ℕ). if q i then add8 k w r else r) here)
          | inr miss ↦ rw miss (among_them (j + 1) m i n xs (omega (arith, past)) (omega (arith, to)) (omega (arith, le)) fits)
        ]
        | inr from_here ↦
            let same : j ≡ i = omega (arith, from, from_here) in
            subst (λ (x : ℕ). row x (added w (words_from j (suc m)) xs) ≡ (if q x then add8 k w (row x xs) else row x xs)) same (first j m n xs below le fits)
      ]
    where
      first : (j m n : ℕ) (xs : List ℕ) → j < n → j + suc m ≤ n → base + size * n ≤ length xs → row j (added w (words_from j (suc m)) xs) ≡ (if q j then add8 k w (row j xs) else row j xs)
      first j m n xs below le fits = elim (cases_Bool (q j)) [
        | inl hit ↦
            rw hit (before_them (j + 1) m j n (add8 (base + size * j + k) w xs) (omega arith) (omega (arith, le)) (word_room j n xs below fits) ∙ row_add8 (base + size * j) k size w xs inside (end_at j n xs below fits))
        | inr miss ↦ rw miss (before_them (j + 1) m j n xs (omega arith) (omega (arith, le)) fits)
      ]

-- what is added to a word of each row of which a test tells it, row by row
pub added_row : (w base size k : ℕ) (q : ℕ → Bool) (n i : ℕ) (xs : List ℕ) → k + 8 ≤ size → i < n → base + size * n ≤ length xs
    → part (base + size * i) size (added w (map (λ j. base + size * j + k) (filter q (range_with_len 0 n))) xs) ≡ (if q i then add8 k w (part (base + size * i) size xs) else part (base + size * i) size xs)
added_row w base size k q n i xs inside lt fits = among_them w base size k q inside 0 n i n xs (omega arith) (omega (arith, lt)) (omega arith) fits

-- ---- one window among tables

-- a table that is the window: its rows are moved
pub within_moved : (w : ℕ) (t : Table) (xs : List ℕ) → IsIn (length xs) (table_window t) → within (table_window t) (moved w t xs) ≡ rows (row_size t.kind) (row_moved w t.kind) t.count (within (table_window t) xs)
unfolding moved on
within_moved w t xs fits =
    let s : ℕ = row_size t.kind in
    let old : List ℕ = within (table_window t) xs in
    let new : List ℕ = rows s (row_moved w t.kind) t.count old in
    let len_old : length old ≡ s * t.count = length-within (table_window t) xs fits in
    let len : length new ≡ s * t.count = length-rows s (row_moved w t.kind) t.count old (length-row_moved w t.kind) (omega (arith, len_old)) ∙ len_old in
    ap (λ (n : ℕ). part t.at n (put t.at new xs)) (sym len) ∙ within_put t.at new xs (omega (arith, fits, len))

-- each of the windows is this one, or apart from it
abbrev pub Told : Window → List Window → List Bool → Type 0
Told v [] bs = Unit {0}
Told v (w ∷ ws) [] = ⊥
Told v (w ∷ ws) (true ∷ bs) = (w ≡ v) × Told v ws bs
Told v (w ∷ ws) (false ∷ bs) = AreApart v w × Told v ws bs

-- the rows of the tables that are told, moved one after the other
abbrev pub turned : ℕ → List Table → List Bool → List ℕ → List ℕ
turned w [] bs xs = xs
turned w (t ∷ ts) [] xs = xs
turned w (t ∷ ts) (true ∷ bs) xs = turned w ts bs (rows (row_size t.kind) (row_moved w t.kind) t.count xs)
turned w (t ∷ ts) (false ∷ bs) xs = turned w ts bs xs

pub within_told : (w : ℕ) (v : Window) (ts : List Table) (bs : List Bool) (xs : List ℕ) → AllIn (length xs) (table_windows ts) → IsIn (length xs) v → Told v (table_windows ts) bs → within v (all_moved w ts xs) ≡ turned w ts bs (within v xs)
unfolding all_moved
within_told w v [] bs xs fits inside told = refl
within_told w v (t ∷ ts) [] xs fits inside told = absurd told
within_told w v (t ∷ ts) (true ∷ bs) xs fits inside told =
    let len = length-moved w t xs fits.0 in
    let one = subst (λ (u : Window). within u (moved w t xs) ≡ rows (row_size t.kind) (row_moved w t.kind) t.count (within u xs)) told.0 (within_moved w t xs fits.0) in
    within_told w v ts bs (moved w t xs) (rw len fits.1) (omega (arith, len, inside)) told.1 ∙ ap (turned w ts bs) one
within_told w v (t ∷ ts) (false ∷ bs) xs fits inside told =
    let len = length-moved w t xs fits.0 in
    let one = agree_within v (table_window t ∷ []) (moved w t xs) xs (moved_agrees [] w t xs xs (agree_same xs) fits.0) inside (told.0, tt) in
    within_told w v ts bs (moved w t xs) (rw len fits.1) (omega (arith, len, inside)) told.1 ∙ ap (turned w ts bs) one

-- ---- one window among words

pub within_added : (w : ℕ) (ats : List ℕ) (v : Window) (xs : List ℕ) → AllIn (length xs) (word_windows ats) → IsIn (length xs) v → IsApart v (word_windows ats) → within v (added w ats xs) ≡ within v xs
unfolding added
within_added w [] v xs fits inside apart = refl
within_added w (at ∷ ats) v xs fits inside apart =
    let len = length-add8 at w xs fits.0 in
    within_added w ats v (add8 at w xs) (rw len fits.1) (omega (arith, len, inside)) apart.1
    ∙ agree_within v (word_window at ∷ []) (add8 at w xs) xs (agree_add8 at w xs fits.0) inside (apart.0, tt)

pub added-append : (w : ℕ) (ats us : List ℕ) (xs : List ℕ) → added w (ats ++ us) xs ≡ added w us (added w ats xs)
unfolding added
added-append w [] us xs = refl
added-append w (at ∷ ats) us xs = added-append w ats us (add8 at w xs)

-- a word inside of a window that is apart
pub inside_apart : (v u : Window) (b : ℕ) → u.at ≤ b → b + 8 ≤ u.at + u.size → AreApart v u → AreApart v (word_window b)
inside_apart v u b from to (inl le) = inl (omega (arith, from, le))
inside_apart v u b from to (inr (inl le)) = inr (inl (omega (arith, to, le)))
inside_apart v u b from to (inr (inr (inl none))) = inr (inr (inl none))
inside_apart v u b from to (inr (inr (inr none))) = absurd (omega (arith, from, to, none))

abbrev Inside : Window → ℕ → Type 0
Inside u b = (u.at ≤ b) × (b + 8 ≤ u.at + u.size)

mapped_apart : (v u : Window) (f : ℕ → ℕ) (q : ℕ → Bool) (is : List ℕ) → AreApart v u → All (λ i. Inside u (f i)) is → IsApart v (word_windows (map f (filter q is)))
mapped_apart v u f q [] apart all = tt
mapped_apart v u f q (i ∷ is) apart all =
    let one : Inside u (f i) = All-head (λ j. Inside u (f j)) i is all in
    let rest = mapped_apart v u f q is apart (All-tail (λ j. Inside u (f j)) i is all) in
    elim (cases_Bool (q i)) [
      | inl hit ↦ rw hit (inside_apart v u (f i) one.0 one.1 apart, rest)
      | inr miss ↦ rw miss rest
    ]

-- so are the words of rows of such a window
pub rows_apart : (v u : Window) (m : ℕ) (f : ℕ → ℕ) (q : ℕ → Bool) → AreApart v u → ((i : ℕ) → i < m → (u.at ≤ f i) × (f i + 8 ≤ u.at + u.size)) → IsApart v (word_windows (map f (filter q (range_with_len 0 m))))
rows_apart v u m f q apart each = mapped_apart v u f q (range_with_len 0 m) apart all
  where
    all : All (λ i. Inside u (f i)) (range_with_len 0 m)
    all i d lt =
        let few : i < m = omega (arith, lt, length-range_with_len 0 m) in
        subst (λ (k : ℕ). Inside u (f k)) (sym (get_or-range_with_len 0 m i d few)) (each (0 + i) (omega (arith, few)))
