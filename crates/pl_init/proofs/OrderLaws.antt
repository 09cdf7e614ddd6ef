-- One member more of an order, and what is flagged then.
use Rattle.std.proofs.Common.{◌≡◌, ℕ, zero, suc, ◌+◌, ◌-◌, ◌<◌, ◌≤◌, Bool, true, false, ◌&&◌, ◌||◌, not, List, [], ◌∷◌, ◌++◌, length, get_or, take, drop, Option, Some, None, refl, sym, ap, ◌∙◌, arith}
use Rattle.std.specs.Prelude.{◌==◌, nat_lt, slice_index_or, find}
use Rattle.std.specs.List.{list_all, range_with_len}
use Rattle.std.proofs.lemmas.Bool.{lt-ltb, le-ltb}
use Rattle.std.proofs.lemmas.List.{drop_more, drop_all, take_more}
use Rattle.std.proofs.lemmas.List.Folds.{list_any-append}
use Rattle.pl_scope.specs.declared.constants.TheConstants.{MAX_MEMBERS}
use Rattle.pl_init.specs.declared.relation.ReachRow.{ReachRow}
use Rattle.pl_init.specs.Graph.{has_number}
use Rattle.pl_init.specs.Lawful.{precedes, is_ready, is_next, are_next, with_next, ordered}
use Rattle.pl_init.specs.Flags.{AreFlags, is_flagged_ready, is_flagged_next}
use Rattle.pl_init.proofs.ListLaws.{number_laws}
use Rattle.pl_init.proofs.FlagLaws.{same_flags}

-- ---- flags of an order's members

pub has_flagged : (flags : List Bool) (front after : List ℕ) (m : ℕ) → after ≡ front ++ m ∷ [] → AreFlags flags (λ k. k == m || has_number front k) → AreFlags flags (has_number after)
has_flagged flags front after m is a = same_flags flags (λ k. k == m || has_number front k) (has_number after) (λ k. pushed k ∙ ap (λ (z : List ℕ). has_number z k) (sym is)) a
  where
    turn : (a b c : Bool) → a ≡ c → (a || b) ≡ (b || (c || false))
    turn true true c e = refl
    turn true false true e = refl
    turn true false false e = e
    turn false true c e = refl
    turn false false true e = e
    turn false false false e = refl

    pushed : (k : ℕ) → (k == m || has_number front k) ≡ has_number (front ++ m ∷ []) k
    pushed k = turn (k == m) (has_number front k) (m == k) (number_laws.symm k m) ∙ sym (list_any-append (λ (x : ℕ). x == k) front (m ∷ []))

same_all : (p q : ℕ → Bool) (n a : ℕ) → ((k : ℕ) → k < a + n → p k ≡ q k) → list_all p (range_with_len a n) ≡ list_all q (range_with_len a n)
same_all p q zero a same = refl
same_all p q (suc n) a same = let rest : list_all p (range_with_len (a + 1) n) ≡ list_all q (range_with_len (a + 1) n) = same_all p q n (a + 1) (λ k lt. same k (omega arith)) in rw (same a (omega arith), rest) refl

same_find : (p q : ℕ → Bool) (n a : ℕ) → ((k : ℕ) → k < a + n → p k ≡ q k) → find p (range_with_len a n) ≡ find q (range_with_len a n)
same_find p q zero a same = refl
same_find p q (suc n) a same = let rest : find p (range_with_len (a + 1) n) ≡ find q (range_with_len (a + 1) n) = same_find p q n (a + 1) (λ k lt. same k (omega arith)) in rw (same a (omega arith), rest) refl

pub flagged_next : (rows : List ReachRow) (count m : ℕ) (flags : List Bool) (front : List ℕ) → count ≤ MAX_MEMBERS → m < count → AreFlags flags (has_number front) → is_flagged_next rows count flags m ≡ is_next rows count front m
unfolding is_next
flagged_next rows count m flags front few small a =
    let all : is_flagged_ready rows count flags m ≡ is_ready rows count front m =
    same_all (λ k. slice_index_or flags k false || not (precedes rows k m)) (λ k. has_number front k || not (precedes rows k m)) count 0 (λ k lt. ap (λ (b : Bool). b || not (precedes rows k m)) (a.each k (below lt))) in
    let own : slice_index_or flags m false ≡ has_number front m = a.each m (omega arith) in
    rw (own, all) refl
  where
    below : {k : ℕ} → k < 0 + count → k < MAX_MEMBERS
    below lt = omega (arith, few)

find_next : (rows : List ReachRow) (count : ℕ) (flags : List Bool) (front : List ℕ) → count ≤ MAX_MEMBERS → AreFlags flags (has_number front) → find (is_flagged_next rows count flags) (range_with_len 0 count) ≡ find (is_next rows count front) (range_with_len 0 count)
find_next rows count flags front few a = same_find (is_flagged_next rows count flags) (is_next rows count front) count 0 (λ k lt. flagged_next rows count k flags front few (below lt) a)
  where
    below : {k : ℕ} → k < 0 + count → k < count
    below lt = omega arith

-- ---- the printed order

left : (count turn : ℕ) → turn < count → suc (count - (turn + 1)) ≡ count - turn
left count turn small = omega arith

one_turn : (rows : List ReachRow) (count most : ℕ) (front : List ℕ) (next : Option ℕ) → find (is_next rows count front) (range_with_len 0 count) ≡ next → ordered rows count (suc most) front ≡ with_next next front (λ m. ordered rows count most (front ++ m ∷ []))
unfolding ordered
one_turn rows count most front next is = ap (λ (o : Option ℕ). with_next o front (λ m. ordered rows count most (front ++ m ∷ []))) is

pub ordered_none : (rows : List ReachRow) (count turn : ℕ) (front whole : List ℕ) (flags : List Bool) → count ≤ MAX_MEMBERS → turn < count → AreFlags flags (has_number front) → find (is_flagged_next rows count flags) (range_with_len 0 count) ≡ None
    → ordered rows count (count - turn) front ≡ whole → front ≡ whole
ordered_none rows count turn front whole flags few small a none so_far =
    sym (one_turn rows count (count - (turn + 1)) front None (sym (find_next rows count flags front few a) ∙ none)) ∙ (ap (λ (k : ℕ). ordered rows count k front) (left count turn small) ∙ so_far)

pub ordered_more : (rows : List ReachRow) (count turn m : ℕ) (front after whole : List ℕ) (flags : List Bool) → count ≤ MAX_MEMBERS → turn < count → AreFlags flags (has_number front) → find (is_flagged_next rows count flags) (range_with_len 0 count) ≡ Some m → after ≡ front ++ m ∷ []
    → ordered rows count (count - turn) front ≡ whole → ordered rows count (count - (turn + 1)) after ≡ whole
ordered_more rows count turn m front after whole flags few small a some is so_far =
    ap (λ (z : List ℕ). ordered rows count (count - (turn + 1)) z) is
    ∙ (sym (one_turn rows count (count - (turn + 1)) front (Some m) (sym (find_next rows count flags front few a) ∙ some)) ∙ (ap (λ (k : ℕ). ordered rows count k front) (left count turn small) ∙ so_far))

pub ordered_all : (rows : List ReachRow) (count turn : ℕ) (front whole : List ℕ) → count ≤ turn → ordered rows count (count - turn) front ≡ whole → front ≡ whole
unfolding ordered
ordered_all rows count turn front whole past so_far = ap (λ (k : ℕ). ordered rows count k front) (sym (none count turn past)) ∙ so_far
  where
    none : (count turn : ℕ) → count ≤ turn → count - turn ≡ 0
    none count turn past = omega arith

pub ordered_whole : (rows : List ReachRow) (count : ℕ) (front : List ℕ) → ordered rows count (count - 0) front ≡ ordered rows count count front
ordered_whole rows count front = ap (λ (k : ℕ). ordered rows count k front) (whole count)
  where
    whole : (n : ℕ) → n - 0 ≡ n
    whole n = omega arith

-- ---- the test of an order

next_head : (rows : List ReachRow) (count m : ℕ) (front order : List ℕ) → are_next rows count front (m ∷ order) ≡ (nat_lt m count && is_next rows count front m && are_next rows count (front ++ m ∷ []) order)
unfolding are_next
next_head rows count m front order = refl

at_next : (rows : List ReachRow) (count i : ℕ) (order : List ℕ) → i < length order
    → are_next rows count (take i order) (drop i order) ≡ (nat_lt (get_or order i 0) count && is_next rows count (take i order) (get_or order i 0) && are_next rows count (take (i + 1) order) (drop (i + 1) order))
at_next rows count i order lt =
    ap (are_next rows count (take i order)) (drop_more order i 0 lt)
    ∙ (next_head rows count (get_or order i 0) (take i order) (drop (i + 1) order)
    ∙ ap (λ (z : List ℕ). nat_lt (get_or order i 0) count && is_next rows count (take i order) (get_or order i 0) && are_next rows count z (drop (i + 1) order)) (sym (take_more order i 0 lt)))

pub next_past : (rows : List ReachRow) (count i : ℕ) (order : List ℕ) (whole : Bool) → i < length order → count ≤ get_or order i 0 → are_next rows count (take i order) (drop i order) ≡ whole → false ≡ whole
next_past rows count i order whole lt past so_far =
    sym (off (nat_lt (get_or order i 0) count) (is_next rows count (take i order) (get_or order i 0)) (are_next rows count (take (i + 1) order) (drop (i + 1) order)) (le-ltb (get_or order i 0) count past)) ∙ (sym (at_next rows count i order lt) ∙ so_far)
  where
    off : (a b c : Bool) → a ≡ false → (a && b && c) ≡ false
    off a b c h = rw h refl

pub next_stop : (rows : List ReachRow) (count i : ℕ) (order : List ℕ) (flags : List Bool) (answer whole : Bool) → count ≤ MAX_MEMBERS → i < length order → get_or order i 0 < count → AreFlags flags (has_number (take i order)) → answer ≡ is_flagged_next rows count flags (get_or order i 0) → answer ≡ false
    → are_next rows count (take i order) (drop i order) ≡ whole → false ≡ whole
next_stop rows count i order flags answer whole few lt small a tells no' so_far =
    let off : is_next rows count (take i order) (get_or order i 0) ≡ false = sym (flagged_next rows count (get_or order i 0) flags (take i order) few small a) ∙ (sym tells ∙ no') in
    sym (miss (nat_lt (get_or order i 0) count) (is_next rows count (take i order) (get_or order i 0)) (are_next rows count (take (i + 1) order) (drop (i + 1) order)) off) ∙ (sym (at_next rows count i order lt) ∙ so_far)
  where
    miss : (a b c : Bool) → b ≡ false → (a && b && c) ≡ false
    miss true b c h = rw h refl
    miss false b c h = refl

pub next_more : (rows : List ReachRow) (count i : ℕ) (order : List ℕ) (flags : List Bool) (answer whole : Bool) → count ≤ MAX_MEMBERS → i < length order → get_or order i 0 < count → AreFlags flags (has_number (take i order)) → answer ≡ is_flagged_next rows count flags (get_or order i 0) → answer ≡ true
    → are_next rows count (take i order) (drop i order) ≡ whole → are_next rows count (take (i + 1) order) (drop (i + 1) order) ≡ whole
next_more rows count i order flags answer whole few lt small a tells yes' so_far =
    let on : is_next rows count (take i order) (get_or order i 0) ≡ true = sym (flagged_next rows count (get_or order i 0) flags (take i order) few small a) ∙ (sym tells ∙ yes') in
    sym (hit (nat_lt (get_or order i 0) count) (is_next rows count (take i order) (get_or order i 0)) (are_next rows count (take (i + 1) order) (drop (i + 1) order)) (lt-ltb (get_or order i 0) count small) on) ∙ (sym (at_next rows count i order lt) ∙ so_far)
  where
    hit : (a b c : Bool) → a ≡ true → b ≡ true → (a && b && c) ≡ c
    hit a b c h k = rw (h, k) refl

pub next_all : (rows : List ReachRow) (count i : ℕ) (order : List ℕ) (whole : Bool) → length order ≤ i → are_next rows count (take i order) (drop i order) ≡ whole → true ≡ whole
unfolding are_next
next_all rows count i order whole past so_far = sym (ap (are_next rows count (take i order)) (drop_all i order past)) ∙ so_far
