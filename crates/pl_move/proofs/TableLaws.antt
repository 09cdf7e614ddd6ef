-- Rows and tables one at a time.
use Rattle.std.proofs.Common.{◌≡◌, ℕ, zero, suc, ◌+◌, ◌-◌, ◌*◌, ◌%◌, ◌^◌, ◌<◌, ◌≤◌, List, [], ◌∷◌, ◌++◌, length, get_or, take, drop, refl, sym, ap, ◌∙◌, append_assoc, arith, rules, add-one, zero-add, drop-cons}
use Rattle.std.specs.Prelude.{if◌then◌else◌}
use Rattle.std.proofs.Math.Seq.{take-append-add, drop-append-add}
use Rattle.std.proofs.Math.Nat.{mul-le-mul_left}
use Rattle.std.proofs.lemmas.List.{length-append, length-take-le, length-drop, drop-drop}
use borrow.Rule.Slice.PartMut.{put_mid}
use Rattle.pl_base.specs.Bytes.{part, put, word64, bytes64}
use Rattle.pl_base.specs.Sums.{plus}
use Rattle.pl_base.specs.Windows.{Window, on, IsIn, AllIn}
use Rattle.pl_base.proofs.WindowLaws.{length-put, part_behind}
use Rattle.pl_move.specs.declared.kind.RowKind.{RowKind}
use Rattle.pl_move.specs.declared.table.Table.{Table}
use Rattle.pl_move.specs.Moves.{add8, rows, row_size, word_offset, moves, row_moved, table_window, table_windows, moved, all_moved, all_back}
use Rattle.pl_move.proofs.MoveLaws.{length-rows, length-row_moved, length-moved}

-- what is written through a part of a slice is put there
pub put_mid-put : (at k : ℕ) (xs new : List ℕ) → length new ≡ k → put_mid at k xs new ≡ put at new xs
unfolding put
put_mid-put at k xs new n =
    ap (λ (rest : List ℕ). take at xs ++ (new ++ rest)) (drop-drop k at xs)
    ∙ ap (λ (i : ℕ). take at xs ++ (new ++ drop (at + i) xs)) (sym n)
    ∙ sym (append_assoc (take at xs) new (drop (at + length new) xs))

put_behind : (front new : List ℕ) (at : ℕ) (xs : List ℕ) → put (length front + at) new (front ++ xs) ≡ front ++ put at new xs
unfolding put
put_behind front new at xs =
    let past : length front + at + length new ≡ length front + (at + length new) = omega arith in
    ap (λ (i : ℕ). take (length front + at) (front ++ xs) ++ new ++ drop i (front ++ xs)) past
    ∙ ap (λ (ys : List ℕ). ys ++ new ++ drop (length front + (at + length new)) (front ++ xs)) (take-append-add front xs at)
    ∙ ap (λ (ys : List ℕ). (front ++ take at xs) ++ new ++ ys) (drop-append-add front xs (at + length new))
    ∙ ap (λ (ys : List ℕ). ys ++ drop (at + length new) xs) (append_assoc front (take at xs) new)
    ∙ append_assoc front (take at xs ++ new) (drop (at + length new) xs)

put_first : (new xs : List ℕ) → put 0 new xs ≡ new ++ drop (length new) xs
unfolding put
put_first new xs = ap (λ (i : ℕ). new ++ drop i xs) (zero-add (length new))

-- one row more: the next one is changed in place
pub rows-next : (size : ℕ) (f : List ℕ → List ℕ) (n : ℕ) (xs : List ℕ) → ((r : List ℕ) → length r ≡ size → length (f r) ≡ size) → size * suc n ≤ length xs
    → put (size * n) (f (part (size * n) size (rows size f n xs))) (rows size f n xs) ≡ rows size f (suc n) xs
unfolding rows
rows-next size f zero xs keeps fits =
    let start : size * 0 ≡ 0 = omega arith in
    let len = keeps (take size xs) (length-take-le size xs (omega (arith, fits))) in
    ap (λ (at : ℕ). put at (f (part at size xs)) xs) start ∙ put_first (f (take size xs)) xs ∙ ap (λ (k : ℕ). f (take size xs) ++ drop k xs) len
rows-next size f (suc n) xs keeps fits =
    let row : List ℕ = f (take size xs) in
    let rest : List ℕ = rows size f n (drop size xs) in
    let len : length row ≡ size = keeps (take size xs) (length-take-le size xs (omega (arith, fits))) in
    let there : size * suc n ≡ length row + size * n = omega (arith, len) in
    ap (λ (at : ℕ). put at (f (part at size (row ++ rest))) (row ++ rest)) there
    ∙ ap (λ (r : List ℕ). put (length row + size * n) (f r) (row ++ rest)) (part_behind (size * n) size row rest)
    ∙ put_behind row (f (part (size * n) size rest)) (size * n) rest
    ∙ ap (λ (ys : List ℕ). row ++ ys) (rows-next size f n (drop size xs) keeps (omega (arith, fits, length-drop size xs)))

rows_room : (size n count len : ℕ) → n < count → size * count ≤ len → size * n + size ≤ len
rows_room size n count len lt fits = let le : size * suc n ≤ size * count = mul-le-mul_left {m = suc n} {n = count} size (omega (arith, lt)) in omega (arith, le, fits)

-- the same, as it is written through a part of a slice
pub rows_more : (size s k n count : ℕ) (f : List ℕ → List ℕ) (xs ys new : List ℕ) → ((r : List ℕ) → length r ≡ size → length (f r) ≡ size) → s ≡ size → k ≡ size → n < count → size * count ≤ length xs → ys ≡ rows size f n xs
    → new ≡ f (part (s * n) k ys) → put_mid (s * n) k ys new ≡ rows size f (n + 1) xs
rows_more size s k n count f xs ys new keeps same is_size lt long is written =
    let fits = rows_room size n count (length xs) lt long in
    let whole : length ys ≡ length xs = ap length is ∙ length-rows size f n xs keeps (omega (arith, fits)) in
    let there : new ≡ f (part (size * n) size ys) = written ∙ ap (λ (i : ℕ). f (part (i * n) k ys)) same ∙ ap (λ (i : ℕ). f (part (size * n) i ys)) is_size in
    let len : length new ≡ size = ap length there ∙ keeps (part (size * n) size ys) (length-take-le size (drop (size * n) ys) (omega (arith, length-drop (size * n) ys, whole, fits))) in
    put_mid-put (s * n) k ys new (len ∙ sym is_size)
    ∙ ap (λ (i : ℕ). put (i * n) new ys) same
    ∙ ap (λ (r : List ℕ). put (size * n) r ys) there
    ∙ ap (λ (zs : List ℕ). put (size * n) (f (part (size * n) size zs)) zs) is
    ∙ rows-next size f n xs keeps (omega (arith, fits))
    ∙ ap (λ (i : ℕ). rows size f i xs) (sym (add-one n))

-- ---- a number modulo 2^64 is as good as the number

row_wrapped : (less more : ℕ) (kind : RowKind) (r : List ℕ) → less < 2 ^ 64 → (more + less) % 2 ^ 64 ≡ 0 → more < 2 ^ 64 → row_moved more kind r ≡ row_moved (2 ^ 64 - less) kind r
unfolding row_moved add8
row_wrapped less more kind r small sum fits =
    let same : plus (word64 (word_offset kind) r) more ≡ plus (word64 (word_offset kind) r) (2 ^ 64 - less) = omega (arith, small, sum, fits) in
    ap (λ (x : ℕ). if moves kind r then put (word_offset kind) (bytes64 x) r else r) same

rows_same : (size : ℕ) (f g : List ℕ → List ℕ) (n : ℕ) (xs : List ℕ) → ((r : List ℕ) → f r ≡ g r) → rows size f n xs ≡ rows size g n xs
unfolding rows
rows_same size f g zero xs same = refl
rows_same size f g (suc n) xs same = ap (λ (r : List ℕ). r ++ rows size f n (drop size xs)) (same (take size xs)) ∙ ap (λ (r : List ℕ). g (take size xs) ++ r) (rows_same size f g n (drop size xs) same)

pub moved_wrapped : (less more : ℕ) (t : Table) (xs : List ℕ) → less < 2 ^ 64 → (more + less) % 2 ^ 64 ≡ 0 → more < 2 ^ 64 → moved more t xs ≡ moved (2 ^ 64 - less) t xs
unfolding moved on
moved_wrapped less more t xs small sum fits =
    ap (λ (r : List ℕ). put t.at r xs) (rows_same (row_size t.kind) (row_moved more t.kind) (row_moved (2 ^ 64 - less) t.kind) t.count (part t.at (row_size t.kind * t.count) xs) (λ r. row_wrapped less more t.kind r small sum fits))

-- ---- tables one at a time

pub all_moved-none : (w : ℕ) (xs : List ℕ) → all_moved w [] xs ≡ xs
unfolding all_moved
all_moved-none w xs = refl

pub all_back-none : (w : ℕ) (xs : List ℕ) → all_back w [] xs ≡ xs
unfolding all_back
all_back-none w xs = refl

pub all_moved-append : (w : ℕ) (ts us : List Table) (xs : List ℕ) → all_moved w (ts ++ us) xs ≡ all_moved w us (all_moved w ts xs)
unfolding all_moved
all_moved-append w [] us xs = refl
all_moved-append w (t ∷ ts) us xs = all_moved-append w ts us (moved w t xs)

pub all_back-append : (w : ℕ) (ts us : List Table) (xs : List ℕ) → all_back w (ts ++ us) xs ≡ all_back w ts (all_back w us xs)
unfolding all_back
all_back-append w [] us xs = refl
all_back-append w (t ∷ ts) us xs = ap (moved (2 ^ 64 - w) t) (all_back-append w ts us xs)

pub one_moved : (w : ℕ) (t : Table) (xs : List ℕ) → all_moved w (t ∷ []) xs ≡ moved w t xs
unfolding all_moved
one_moved w t xs = refl

pub next_back : (w : ℕ) (t : Table) (ts : List Table) (xs : List ℕ) → all_back w (t ∷ ts) xs ≡ moved (2 ^ 64 - w) t (all_back w ts xs)
unfolding all_back
next_back w t ts xs = refl

pub windows_at : (n : ℕ) (ts : List Table) (i : ℕ) (d : Table) → AllIn n (table_windows ts) → i < length ts → IsIn n (table_window (get_or ts i d))
windows_at n [] i d fits lt = absurd (omega (arith, lt))
windows_at n (t ∷ ts) zero d fits lt = fits.0
windows_at n (t ∷ ts) (suc i) d fits lt = windows_at n ts i d fits.1 (omega (arith, lt))

tables_next : (w : ℕ) (ts : List Table) (i : ℕ) (d : Table) (xs : List ℕ) → i < length ts → moved w (get_or ts i d) (all_moved w (take i ts) xs) ≡ all_moved w (take (suc i) ts) xs
unfolding all_moved
tables_next w [] i d xs lt = absurd (omega (arith, lt))
tables_next w (t ∷ ts) zero d xs lt = refl
tables_next w (t ∷ ts) (suc i) d xs lt = tables_next w ts i d (moved w t xs) (omega (arith, lt))

-- one table more, from the first on
pub tables_more : (w : ℕ) (ts : List Table) (i : ℕ) (d : Table) (xs ys new : List ℕ) → i < length ts → ys ≡ all_moved w (take i ts) xs → new ≡ moved w (get_or ts i d) ys → new ≡ all_moved w (take (i + 1) ts) xs
tables_more w ts i d xs ys new lt is written = written ∙ ap (moved w (get_or ts i d)) is ∙ tables_next w ts i d xs lt ∙ ap (λ (k : ℕ). all_moved w (take k ts) xs) (sym (add-one i))

-- one table more, from the last on
pub back_more : (w : ℕ) (ts : List Table) (i : ℕ) (d : Table) (xs ys new : List ℕ) → 0 < i → i ≤ length ts → ys ≡ all_back w (drop i ts) xs → new ≡ moved (2 ^ 64 - w) (get_or ts (i - 1) d) ys → new ≡ all_back w (drop (i - 1) ts) xs
back_more w ts i d xs ys new some le is written =
    let here : suc (i - 1) ≡ i = omega (arith, some) in
    let cut : drop (i - 1) ts ≡ get_or ts (i - 1) d ∷ drop i ts = drop-cons ts (i - 1) d (omega (arith, some, le)) ∙ ap (λ (k : ℕ). get_or ts (i - 1) d ∷ drop k ts) here in
    written ∙ ap (moved (2 ^ 64 - w) (get_or ts (i - 1) d)) is ∙ sym (next_back w (get_or ts (i - 1) d) (drop i ts) xs) ∙ ap (λ (us : List Table). all_back w us xs) (sym cut)
