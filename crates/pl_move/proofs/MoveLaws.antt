-- What was added is subtracted again.
use Rattle.std.proofs.Common.{◌≡◌, ℕ, zero, suc, ◌+◌, ◌-◌, ◌*◌, ◌/◌, ◌%◌, ◌^◌, ◌<◌, ◌≤◌, Bool, true, false, cond, List, [], ◌∷◌, ◌++◌, length, get_or, take, drop, refl, sym, ap, ◌∙◌, arith, inl, inr, rules}
use Rattle.std.specs.Prelude.{◌⊎◌, ◌||◌, ◌&&◌, not, ◌==◌, slice_index}
use Rattle.std.proofs.lemmas.Bool.{cases_Bool}
use Rattle.std.proofs.lemmas.Bool.Decides.{nat_tests}
use Rattle.std.proofs.lemmas.List.{places, ext_get_or, length-append, length-take, length-drop, length-take-le, get_or-take, get_or-drop, take_at, drop_at, take-append-drop}
use Rattle.pl_base.specs.Bytes.{IsBytes, part, put, byte, word16, word32, word64, bytes64}
use Rattle.pl_base.specs.Sums.{plus}
use Rattle.pl_base.specs.Windows.{Window, within, on, holds, IsIn, AllIn, AreApart, IsApart, Agree}
use Rattle.pl_base.proofs.WordLaws.{word16_same, word32_same, word64_same, word64_put, word64_below, length_bytes64, is_bytes_bytes64, bytes64_word, is_bytes_part, is_bytes_put, is_bytes_append}
use Rattle.pl_base.proofs.WindowLaws.{length-put, length-within, agree_same, agree_nowhere, agree_edit, agree_back, agree_within, agree_put, within_put, apart_turned}
use Rattle.pl_dyn.specs.Kinds.{is_address_tag}
use Rattle.pl_elf.specs.Headers.{is_moved_kind}
use Rattle.pl_move.specs.declared.kind.RowKind.{RowKind}
use Rattle.pl_move.specs.declared.kind.RowKind.TheVariants.{Entry, SegmentAddress, PhysicalAddress, TagValue, SymbolValue, RelocationPlace, RelativeAddend, PackedAddress}
use Rattle.pl_move.specs.declared.table.Table.{Table}
use Rattle.pl_move.specs.Moves.{add8, rows, row_size, word_offset, has_section, moves, row_moved, table_window, table_windows, IsSlot, moved, all_moved, all_back}

-- ---- one word

abbrev word : ℕ → ℕ → List ℕ → List ℕ
word at more xs = bytes64 (plus (word64 at xs) more)

length-word : (at more : ℕ) (xs : List ℕ) → length (word at more xs) ≡ 8
length-word at more xs = length_bytes64 (plus (word64 at xs) more)

pub length-add8 : (at more : ℕ) (xs : List ℕ) → at + 8 ≤ length xs → length (add8 at more xs) ≡ length xs
unfolding add8
length-add8 at more xs fits = length-put at (word at more xs) xs (omega (arith, fits, length-word at more xs))

pub agree_add8 : (at more : ℕ) (xs : List ℕ) → at + 8 ≤ length xs → Agree (record { at = at; size = 8 } ∷ []) (add8 at more xs) xs
unfolding add8
agree_add8 at more xs fits = rw (length-word at more xs) at (agree_edit [] at (word at more xs) xs xs (agree_same xs) (omega (arith, fits, length-word at more xs)))

sum_back : (x w : ℕ) → x < 2 ^ 64 → w ≤ 2 ^ 64 → plus (plus x w) (2 ^ 64 - w) ≡ x
sum_back x w p q = omega arith

small : (n : ℕ) → n % 2 ^ 64 < 2 ^ 64
small n = omega arith

pub add8_back : (at w : ℕ) (xs : List ℕ) → at + 8 ≤ length xs → IsBytes xs → w ≤ 2 ^ 64 → add8 at (2 ^ 64 - w) (add8 at w xs) ≡ xs
unfolding add8
add8_back at w xs fits h le =
    let new : List ℕ = put at (word at w xs) xs in
    let room : at + length (word at w xs) ≤ length xs = omega (arith, fits, length-word at w xs) in
    let again : word64 at new ≡ plus (word64 at xs) w = word64_put at (plus (word64 at xs) w) xs fits (small (word64 at xs + w)) in
    let text : word at (2 ^ 64 - w) new ≡ part at 8 xs =
    ap bytes64 (ap (λ (x : ℕ). plus x (2 ^ 64 - w)) again ∙ sum_back (word64 at xs) w (word64_below at xs h) le) ∙ bytes64_word at xs fits h in
    let one : Agree (record { at = at; size = 8 } ∷ []) new xs = rw (length-word at w xs) at (agree_edit [] at (word at w xs) xs xs (agree_same xs) room) in
    ap (λ (y : List ℕ). put at y new) text ∙ agree_nowhere (put at (part at 8 xs) new) xs (agree_back (record { at = at; size = 8 }) [] new xs one fits)

-- ---- one row

-- numbers apart from the word that was added to
beside : (at k n : ℕ) → (k + n ≤ at) ⊎ (at + 8 ≤ k) → AreApart (record { at = k; size = n }) (record { at = at; size = 8 })
beside at k n (inl le) = inl le
beside at k n (inr le) = inr (inl le)

same_part : (at more k n : ℕ) (r : List ℕ) → at + 8 ≤ length r → k + n ≤ length r → (k + n ≤ at) ⊎ (at + 8 ≤ k) → part k n (add8 at more r) ≡ part k n r
same_part at more k n r fits in_row apart =
    agree_within (record { at = k; size = n }) (record { at = at; size = 8 } ∷ []) (add8 at more r) r (agree_add8 at more r fits) in_row (beside at k n apart, tt)

kept16 : (at more k : ℕ) (r : List ℕ) → at + 8 ≤ length r → k + 2 ≤ length r → (k + 2 ≤ at) ⊎ (at + 8 ≤ k) → word16 k (add8 at more r) ≡ word16 k r
kept16 at more k r fits in_row apart = word16_same k k (add8 at more r) r (same_part at more k 2 r fits in_row apart)

kept32 : (at more k : ℕ) (r : List ℕ) → at + 8 ≤ length r → k + 4 ≤ length r → (k + 4 ≤ at) ⊎ (at + 8 ≤ k) → word32 k (add8 at more r) ≡ word32 k r
kept32 at more k r fits in_row apart = word32_same k k (add8 at more r) r (same_part at more k 4 r fits in_row apart)

kept8 : (at more k : ℕ) (r : List ℕ) → at + 8 ≤ length r → k < at → byte k (add8 at more r) ≡ byte k r
kept8 at more k r fits before = (agree_add8 at more r fits).bytes k (grind (arith, nat_tests))

kept64 : (at more k : ℕ) (r : List ℕ) → at + 8 ≤ length r → k + 8 ≤ length r → (k + 8 ≤ at) ⊎ (at + 8 ≤ k) → word64 k (add8 at more r) ≡ word64 k r
kept64 at more k r fits in_row apart = word64_same k k (add8 at more r) r (same_part at more k 8 r fits in_row apart)

word64_added : (at w : ℕ) (r : List ℕ) → at + 8 ≤ length r → word64 at (add8 at w r) ≡ plus (word64 at r) w
unfolding add8
word64_added at w r fits = word64_put at (plus (word64 at r) w) r fits (small (word64 at r + w))

same_parity : (x w : ℕ) → w % 2 ≡ 0 → plus x w % 2 ≡ x % 2
same_parity x w even = omega (arith, even)

pub less_even : (w : ℕ) → IsSlot w → (2 ^ 64 - w) % 2 ≡ 0
less_even w slot = omega (arith, slot.0, slot.1)

-- whether a row's word moves is not told by that word
stays : (kind : RowKind) (w : ℕ) (r : List ℕ) → length r ≡ row_size kind → w % 2 ≡ 0 → moves kind (add8 (word_offset kind) w r) ≡ moves kind r
stays Entry w r n even = refl
stays SegmentAddress w r n even = ap is_moved_kind (kept32 16 w 0 r (omega (arith, n)) (omega (arith, n)) (inl (omega arith)))
stays PhysicalAddress w r n even = ap is_moved_kind (kept32 24 w 0 r (omega (arith, n)) (omega (arith, n)) (inl (omega arith)))
stays TagValue w r n even = ap is_address_tag (kept64 8 w 0 r (omega (arith, n)) (omega (arith, n)) (inl (omega arith)))
stays SymbolValue w r n even = let e = kept16 8 w 6 r (omega (arith, n)) (omega (arith, n)) (inl (omega arith)) in let f = kept8 8 w 4 r (omega (arith, n)) (omega arith) in rw (e, f) refl
stays RelocationPlace w r n even = ap (λ (k : ℕ). not (k == 0)) (kept32 0 w 8 r (omega (arith, n)) (omega (arith, n)) (inr (omega arith)))
stays RelativeAddend w r n even = ap (λ (k : ℕ). k == 8) (kept32 16 w 8 r (omega (arith, n)) (omega (arith, n)) (inl (omega arith)))
stays PackedAddress w r n even = ap (λ (k : ℕ). k == 0) (ap (λ (x : ℕ). x % 2) (word64_added 0 w r (omega (arith, n))) ∙ same_parity (word64 0 r) w even)

in_row : (kind : RowKind) → word_offset kind + 8 ≤ row_size kind
in_row Entry = omega arith
in_row SegmentAddress = omega arith
in_row PhysicalAddress = omega arith
in_row TagValue = omega arith
in_row SymbolValue = omega arith
in_row RelocationPlace = omega arith
in_row RelativeAddend = omega arith
in_row PackedAddress = omega arith

has_rows : (kind : RowKind) → 0 < row_size kind
has_rows kind = omega (arith, in_row kind)

pub length-row_moved : (w : ℕ) (kind : RowKind) (r : List ℕ) → length r ≡ row_size kind → length (row_moved w kind r) ≡ row_size kind
unfolding row_moved
length-row_moved w kind r n = elim (cases_Bool (moves kind r)) [
  | inl hit ↦ rw hit (length-add8 (word_offset kind) w r (omega (arith, n, in_row kind)) ∙ n)
  | inr miss ↦ rw miss n
]

row_back : (w : ℕ) (kind : RowKind) (r : List ℕ) → length r ≡ row_size kind → IsBytes r → IsSlot w → row_moved (2 ^ 64 - w) kind (row_moved w kind r) ≡ r
unfolding row_moved
row_back w kind r n h le = elim (cases_Bool (moves kind r)) [
  | inl hit ↦ rw (hit, stays kind w r n le.1 ∙ hit) (add8_back (word_offset kind) w r (omega (arith, n, in_row kind)) h le.0)
  | inr miss ↦ rw (miss, miss) refl
]

-- ---- bytes stay bytes

row_bytes : (w : ℕ) (kind : RowKind) (r : List ℕ) → length r ≡ row_size kind → IsBytes r → IsBytes (row_moved w kind r)
unfolding row_moved add8
row_bytes w kind r n h = elim (cases_Bool (moves kind r)) [
  | inl hit ↦ rw hit (is_bytes_put (word_offset kind) (bytes64 (plus (word64 (word_offset kind) r) w)) r (is_bytes_bytes64 (plus (word64 (word_offset kind) r) w)) h)
  | inr miss ↦ rw miss h
]

-- ---- rows

pub length-rows : (size : ℕ) (f : List ℕ → List ℕ) (n : ℕ) (xs : List ℕ) → ((r : List ℕ) → length r ≡ size → length (f r) ≡ size) → size * n ≤ length xs → length (rows size f n xs) ≡ length xs
unfolding rows
length-rows size f zero xs keeps fits = refl
length-rows size f (suc n) xs keeps fits =
    let one = keeps (take size xs) (length-take-le size xs (omega arith)) in
    let rest = length-rows size f n (drop size xs) keeps (omega (arith, length-drop size xs)) in
    length-append (f (take size xs)) (rows size f n (drop size xs)) ∙ omega (arith, one, rest, length-drop size xs)

rows_bytes : (size : ℕ) (f : List ℕ → List ℕ) (n : ℕ) (xs : List ℕ) → ((r : List ℕ) → length r ≡ size → IsBytes r → IsBytes (f r)) → size * n ≤ length xs → IsBytes xs → IsBytes (rows size f n xs)
unfolding rows
rows_bytes size f zero xs keeps fits h = h
rows_bytes size f (suc n) xs keeps fits h =
    is_bytes_append (f (take size xs)) (rows size f n (drop size xs)) (keeps (take size xs) (length-take-le size xs (omega arith)) (λ i. search (rules, places)))
    (rows_bytes size f n (drop size xs) keeps (omega (arith, length-drop size xs)) (λ i. search (rules, places)))

rows_back : (size : ℕ) (f g : List ℕ → List ℕ) (n : ℕ) (xs : List ℕ) → ((r : List ℕ) → length r ≡ size → length (f r) ≡ size) → ((r : List ℕ) → length r ≡ size → IsBytes r → g (f r) ≡ r)
    → size * n ≤ length xs → IsBytes xs → rows size g n (rows size f n xs) ≡ xs
unfolding rows
rows_back size f g zero xs keeps undoes fits h = refl
rows_back size f g (suc n) xs keeps undoes fits h =
    let len = length-take-le size xs (omega arith) in
    let one = keeps (take size xs) len in
    let rest = rows size f n (drop size xs) in
    ap (λ (y : List ℕ). g y ++ rows size g n (drop size (f (take size xs) ++ rest))) (take_at (f (take size xs)) rest size one)
    ∙ ap (λ (y : List ℕ). g (f (take size xs)) ++ rows size g n y) (drop_at (f (take size xs)) rest size one)
    ∙ ap (λ (y : List ℕ). y ++ rows size g n rest) (undoes (take size xs) len (λ i. search (rules, places)))
    ∙ ap (λ (y : List ℕ). take size xs ++ y) (rows_back size f g n (drop size xs) keeps undoes (omega (arith, length-drop size xs)) (λ i. search (rules, places)))
    ∙ take-append-drop size xs

-- ---- one table

-- the table's new rows
abbrev table_rows : ℕ → Table → List ℕ → List ℕ
table_rows w t xs = rows (row_size t.kind) (row_moved w t.kind) t.count (within (table_window t) xs)

length-table_rows : (w : ℕ) (t : Table) (xs : List ℕ) → IsIn (length xs) (table_window t) → length (table_rows w t xs) ≡ row_size t.kind * t.count
length-table_rows w t xs fits =
    let len = length-within (table_window t) xs fits in
    length-rows (row_size t.kind) (row_moved w t.kind) t.count (within (table_window t) xs) (length-row_moved w t.kind) (omega (arith, len)) ∙ len

pub length-moved : (w : ℕ) (t : Table) (xs : List ℕ) → IsIn (length xs) (table_window t) → length (moved w t xs) ≡ length xs
unfolding moved on
length-moved w t xs fits = length-put t.at (table_rows w t xs) xs (omega (arith, fits, length-table_rows w t xs fits))

pub moved_bytes : (w : ℕ) (t : Table) (xs : List ℕ) → IsIn (length xs) (table_window t) → IsBytes xs → IsBytes (moved w t xs)
unfolding moved on
moved_bytes w t xs fits h =
    is_bytes_put t.at (table_rows w t xs) xs
    (rows_bytes (row_size t.kind) (row_moved w t.kind) t.count (within (table_window t) xs) (row_bytes w t.kind) (omega (arith, length-within (table_window t) xs fits)) (is_bytes_part t.at (row_size t.kind * t.count) xs h)) h

-- a table moved is one window more
pub moved_agrees : (ws : List Window) (w : ℕ) (t : Table) (xs ys : List ℕ) → Agree ws xs ys → IsIn (length xs) (table_window t) → Agree (table_window t ∷ ws) (moved w t xs) ys
unfolding moved on
moved_agrees ws w t xs ys h fits =
    let len = length-table_rows w t xs fits in
    rw len at (agree_edit ws t.at (table_rows w t xs) xs ys h (omega (arith, fits, len)))

-- moved in both of two files that agree elsewhere
pub agree_moved : (ws : List Window) (w : ℕ) (t : Table) (xs ys : List ℕ) → Agree ws xs ys → IsIn (length ys) (table_window t) → IsApart (table_window t) ws → Agree ws (moved w t xs) (moved w t ys)
unfolding moved on
agree_moved ws w t xs ys h fits apart =
    let same : table_rows w t xs ≡ table_rows w t ys = ap (rows (row_size t.kind) (row_moved w t.kind) t.count) (agree_within (table_window t) ws xs ys h fits apart) in
    let one : Agree ws (put t.at (table_rows w t ys) xs) (put t.at (table_rows w t ys) ys) = agree_put ws t.at (table_rows w t ys) xs ys h (omega (arith, fits, length-table_rows w t ys fits)) in
    rw same one

-- and back
pub moved_back : (w : ℕ) (t : Table) (xs : List ℕ) → IsIn (length xs) (table_window t) → IsBytes xs → IsSlot w → moved (2 ^ 64 - w) t (moved w t xs) ≡ xs
unfolding moved on
moved_back w t xs fits h le =
    let old = within (table_window t) xs in
    let new = table_rows w t xs in
    let len = length-table_rows w t xs fits in
    let len_old = length-within (table_window t) xs fits in
    let there : within (table_window t) (put t.at new xs) ≡ new = ap (λ (n : ℕ). part t.at n (put t.at new xs)) (sym len) ∙ within_put t.at new xs (omega (arith, fits, len)) in
    let again : table_rows (2 ^ 64 - w) t (put t.at new xs) ≡ old =
    ap (rows (row_size t.kind) (row_moved (2 ^ 64 - w) t.kind) t.count) there
    ∙ rows_back (row_size t.kind) (row_moved w t.kind) (row_moved (2 ^ 64 - w) t.kind) t.count old (length-row_moved w t.kind) (λ r n b. row_back w t.kind r n b le) (omega (arith, len_old)) (is_bytes_part t.at (row_size t.kind * t.count) xs h) in
    let differ : Agree (table_window t ∷ []) (put t.at new xs) xs = rw len at (agree_edit [] t.at new xs xs (agree_same xs) (omega (arith, fits, len))) in
    ap (λ (y : List ℕ). put t.at y (put t.at new xs)) again ∙ agree_nowhere (put t.at old (put t.at new xs)) xs (agree_back (table_window t) [] (put t.at new xs) xs differ fits)

-- ---- all tables

pub length-all_moved : (w : ℕ) (ts : List Table) (xs : List ℕ) → AllIn (length xs) (table_windows ts) → length (all_moved w ts xs) ≡ length xs
unfolding all_moved
length-all_moved w [] xs fits = refl
length-all_moved w (t ∷ ts) xs fits =
    let len = length-moved w t xs fits.0 in
    length-all_moved w ts (moved w t xs) (rw len fits.1) ∙ len

-- a window apart from them keeps its bytes
pub within_all_moved : (w : ℕ) (ts : List Table) (v : Window) (xs : List ℕ) → AllIn (length xs) (table_windows ts) → IsIn (length xs) v → IsApart v (table_windows ts) → within v (all_moved w ts xs) ≡ within v xs
unfolding all_moved
within_all_moved w [] v xs fits v_fits apart = refl
within_all_moved w (t ∷ ts) v xs fits v_fits apart =
    let len = length-moved w t xs fits.0 in
    within_all_moved w ts v (moved w t xs) (rw len fits.1) (omega (arith, len, v_fits)) apart.1
    ∙ agree_within v (table_window t ∷ []) (moved w t xs) xs (moved_agrees [] w t xs xs (agree_same xs) fits.0) v_fits (apart.0, tt)

abbrev pub AllApart : List Table → List Window → Type 0
AllApart [] ws = Unit {0}
AllApart (t ∷ ts) ws = IsApart (table_window t) ws × AllApart ts ws

-- What agrees with the moved file outside of some windows, apart from the tables, agrees after moving back with the file.
pub agree_all_back : (ws : List Window) (w : ℕ) (ts : List Table) (xs ys : List ℕ) → Agree ws xs (all_moved w ts ys) → AllIn (length ys) (table_windows ts) → AllApart ts ws → IsBytes ys → IsSlot w
    → Agree ws (all_back w ts xs) ys
unfolding all_moved all_back
agree_all_back ws w [] xs ys h fits apart b le = h
agree_all_back ws w (t ∷ ts) xs ys h fits apart b le =
    let len = length-moved w t ys fits.0 in
    let rest = agree_all_back ws w ts xs (moved w t ys) h (rw len fits.1) apart.1 (moved_bytes w t ys fits.0 b) le in
    let one = agree_moved ws (2 ^ 64 - w) t (all_back w ts xs) (moved w t ys) rest (omega (arith, len, fits.0)) apart.0 in
    rw (moved_back w t ys fits.0 b le) at one

apart_nothing : (ts : List Table) → AllApart ts []
apart_nothing [] = tt
apart_nothing (t ∷ ts) = (tt, apart_nothing ts)

-- So moving back undoes moving.
pub back_undoes : (w : ℕ) (ts : List Table) (xs : List ℕ) → AllIn (length xs) (table_windows ts) → IsBytes xs → IsSlot w → all_back w ts (all_moved w ts xs) ≡ xs
back_undoes w ts xs fits b le = agree_nowhere (all_back w ts (all_moved w ts xs)) xs (agree_all_back [] w ts (all_moved w ts xs) xs (agree_same (all_moved w ts xs)) fits (apart_nothing ts) b le)

-- ---- and the reverse

length-all_back : (w : ℕ) (ts : List Table) (xs : List ℕ) → AllIn (length xs) (table_windows ts) → length (all_back w ts xs) ≡ length xs
unfolding all_back
length-all_back w [] xs fits = refl
length-all_back w (t ∷ ts) xs fits =
    let rest = length-all_back w ts xs fits.1 in
    length-moved (2 ^ 64 - w) t (all_back w ts xs) (rw rest fits.0) ∙ rest

all_back_bytes : (w : ℕ) (ts : List Table) (xs : List ℕ) → AllIn (length xs) (table_windows ts) → IsBytes xs → IsBytes (all_back w ts xs)
unfolding all_back
all_back_bytes w [] xs fits b = b
all_back_bytes w (t ∷ ts) xs fits b = moved_bytes (2 ^ 64 - w) t (all_back w ts xs) (rw (length-all_back w ts xs fits.1) fits.0) (all_back_bytes w ts xs fits.1 b)

moved_forth : (w : ℕ) (t : Table) (xs : List ℕ) → IsIn (length xs) (table_window t) → IsBytes xs → IsSlot w → moved w t (moved (2 ^ 64 - w) t xs) ≡ xs
moved_forth w t xs fits b slot =
    let less : 2 ^ 64 - w ≤ 2 ^ 64 = omega arith in
    let twice : 2 ^ 64 - (2 ^ 64 - w) ≡ w = omega (arith, slot.0) in
    let back : moved (2 ^ 64 - (2 ^ 64 - w)) t (moved (2 ^ 64 - w) t xs) ≡ xs = moved_back (2 ^ 64 - w) t xs fits b (less, less_even w slot) in
    ap (λ (n : ℕ). moved n t (moved (2 ^ 64 - w) t xs)) (sym twice) ∙ back

-- moving undoes moving back
pub forth_undoes : (w : ℕ) (ts : List Table) (xs : List ℕ) → AllIn (length xs) (table_windows ts) → IsBytes xs → IsSlot w → all_moved w ts (all_back w ts xs) ≡ xs
unfolding all_moved all_back
forth_undoes w [] xs fits b slot = refl
forth_undoes w (t ∷ ts) xs fits b slot =
    let room : IsIn (length (all_back w ts xs)) (table_window t) = rw (length-all_back w ts xs fits.1) fits.0 in
    ap (all_moved w ts) (moved_forth w t (all_back w ts xs) room (all_back_bytes w ts xs fits.1 b) slot) ∙ forth_undoes w ts xs fits.1 b slot
