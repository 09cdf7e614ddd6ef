-- What a search over a graph does step by step.
use Rattle.std.proofs.Common.{◌≡◌, ℕ, suc, ◌+◌, ◌-◌, ◌<◌, ◌≤◌, List, [], ◌∷◌, ◌++◌, length, get_or, drop, Option, Some, None, refl, sym, ap, ◌∙◌, arith, inl, inr, zero-add}
use Rattle.std.specs.Prelude.{fold, slice_get}
use Rattle.std.specs.List.{All, flat_map, range_with_len}
use Rattle.std.proofs.lemmas.Bool.{cases_Bool}
use Rattle.std.proofs.lemmas.List.{at_drop_more, map-id, flat_map_more}
use Rattle.std.proofs.lemmas.List.FromFn.{map-range_with_len_more}
use Rattle.std.proofs.lemmas.List.Elements.{All-push}
use Rattle.pl_init.specs.declared.relation.ReachRow.{ReachRow}
use Rattle.pl_init.specs.Found.{row, is_seen, found, found_by, from_row, spread, reached}

-- ---- one member more

pub found_more : (m via : ℕ) (rows after : List ReachRow) (items : List ℕ) (i : ℕ) → i < length items → after ≡ found m via rows (get_or items i 0) → (all : List ReachRow) → fold (found m via) rows (drop i items) ≡ all → fold (found m via) after (drop (i + 1) items) ≡ all
found_more m via rows after items i lt is all so_far =
    ap (λ (z : List ReachRow). fold (found m via) z (drop (i + 1) items)) is ∙ (sym (at_drop_more (λ (xs : List ℕ). fold (found m via) rows xs) items i 0 lt) ∙ so_far)

pub found_within : (count m via : ℕ) (rows : List ReachRow) (k : ℕ) → All (λ r. r.to < count) rows → k < count → All (λ r. r.to < count) (found m via rows k)
unfolding found
found_within count m via rows k all small =
    elim (cases_Bool (is_seen m rows k)) [
      | inl t ↦ rw t all
      | inr f ↦ rw f (All-push (λ (r : ReachRow). r.to < count) rows (row m k via) all small)
    ]

-- ---- one row more

pub spread_more : (graph : List (List ℕ)) (m count next : ℕ) (rows after : List ReachRow) (r : ReachRow) → next < count → slice_get rows next ≡ Some r → after ≡ found_by graph m rows r.to → (all : List ReachRow)
    → spread graph m (count - next) next rows ≡ all → spread graph m (count - (next + 1)) (next + 1) after ≡ all
unfolding spread
spread_more graph m count next rows after r small at is all so_far =
    ap (λ (z : List ReachRow). spread graph m (count - (next + 1)) (next + 1) z) is ∙ (sym (one (count - (next + 1)) at) ∙ (ap (λ (k : ℕ). spread graph m k next rows) (left count next small) ∙ so_far))
  where
    left : (count next : ℕ) → next < count → suc (count - (next + 1)) ≡ count - next
    left count next small = omega arith

    one : (most : ℕ) → slice_get rows next ≡ Some r → spread graph m (suc most) next rows ≡ spread graph m most (next + 1) (found_by graph m rows r.to)
    one most at = ap (λ (o : Option ReachRow). from_row o rows (λ x. spread graph m most (next + 1) (found_by graph m rows x.to))) at

pub spread_none : (graph : List (List ℕ)) (m count next : ℕ) (rows : List ReachRow) → next < count → slice_get rows next ≡ None → (all : List ReachRow) → spread graph m (count - next) next rows ≡ all → rows ≡ all
unfolding spread
spread_none graph m count next rows small at all so_far =
    sym (one (count - (next + 1)) at) ∙ (ap (λ (k : ℕ). spread graph m k next rows) (left count next small) ∙ so_far)
  where
    left : (count next : ℕ) → next < count → suc (count - (next + 1)) ≡ count - next
    left count next small = omega arith

    one : (most : ℕ) → slice_get rows next ≡ None → spread graph m (suc most) next rows ≡ rows
    one most at = ap (λ (o : Option ReachRow). from_row o rows (λ x. spread graph m most (next + 1) (found_by graph m rows x.to))) at

pub spread_all : (graph : List (List ℕ)) (m count next : ℕ) (rows all : List ReachRow) → count ≤ next → spread graph m (count - next) next rows ≡ all → rows ≡ all
unfolding spread
spread_all graph m count next rows all past so_far = sym zero_is ∙ (ap (λ (k : ℕ). spread graph m k next rows) (sym (none count next past)) ∙ so_far)
  where
    none : (count next : ℕ) → count ≤ next → count - next ≡ 0
    none count next past = omega arith

    zero_is : spread graph m 0 next rows ≡ rows
    zero_is = refl

pub spread_whole : (graph : List (List ℕ)) (m count : ℕ) (rows : List ReachRow) → spread graph m (count - 0) 0 rows ≡ spread graph m count 0 rows
spread_whole graph m count rows = ap (λ (k : ℕ). spread graph m k 0 rows) (whole count)
  where
    whole : (n : ℕ) → n - 0 ≡ n
    whole n = omega arith

-- ---- the rows of one member more

range_push : (n a : ℕ) → range_with_len a (n + 1) ≡ range_with_len a n ++ (a + n) ∷ []
range_push n a = sym (map-id (range_with_len a (n + 1))) ∙ (map-range_with_len_more (λ (k : ℕ). k) a n (a + n) refl ∙ ap (λ (z : List ℕ). z ++ (a + n) ∷ []) (map-id (range_with_len a n)))

pub all_more : (graph : List (List ℕ)) (rows after found : List ReachRow) (k : ℕ) → rows ≡ flat_map (reached graph) (range_with_len 0 k) → found ≡ reached graph k → after ≡ rows ++ found → after ≡ flat_map (reached graph) (range_with_len 0 (k + 1))
all_more graph rows after found k so_far is pushed =
    pushed ∙ (ap (λ (z : List ReachRow). z ++ found) so_far ∙ (ap (λ (z : List ReachRow). flat_map (reached graph) (range_with_len 0 k) ++ z) (is ∙ ap (reached graph) (sym (zero-add k)))
    ∙ (flat_map_more (reached graph) [] (range_with_len 0 k) (0 + k) ∙ ap (flat_map (reached graph)) (sym (range_push k 0)))))
