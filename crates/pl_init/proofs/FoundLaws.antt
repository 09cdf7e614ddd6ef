-- The rows that are found by a breadth-first search are right.
use Rattle.std.proofs.Common.{◌≡◌, ℕ, zero, suc, ◌+◌, ◌<◌, ◌≤◌, Bool, true, false, ◌&&◌, ◌||◌, List, [], ◌∷◌, ◌++◌, length, map, Option, Some, None, refl, sym, ap, subst, ◌∙◌, arith, inl, inr, append_assoc, eqb}
use Rattle.std.specs.Prelude.{◌≢◌, ◌==◌, nat_lt, nat_le, slice_get, fold}
use Rattle.std.specs.List.{list_all, flat_map, range_with_len, IsDistinct}
use Rattle.std.proofs.lemmas.Bool.{cases_Bool, cases_lt, false≢true, and_parts, and_from, or_cases, or_parts, or_left, or_right, eqb-true, eq-eqb, ne_eqb, lt-ltb, le-leb}
use Rattle.std.proofs.lemmas.List.{append-nil, length-map}
use Rattle.std.proofs.lemmas.List.Folds.{list_any-append, list_all-append}
use Rattle.std.proofs.lemmas.List.FromFn.{length-range_with_len}
use Rattle.pl_init.specs.declared.relation.ReachRow.{ReachRow}
use Rattle.pl_init.specs.Graph.{needs, has_number}
use Rattle.pl_init.specs.Found.{row, among, is_seen, found, found_by, from_row, spread, reached, all_reached}
use Rattle.pl_init.specs.Right.{ascends, is_numbered, rows_of, is_step, are_steps, holds_needs, is_closed, is_right_at, is_right}
use Rattle.pl_init.proofs.ListLaws.{all_has, all_from, range_has, range_within, no_longer, distinct_cons, distinct_nil}
use Rattle.pl_init.proofs.RightLaws.{IsStep, step_back, steps_cons, among_push, among_back, seen_front}

-- ---- rows at the end

steps_push : (graph : List (List ℕ)) (m : ℕ) (rows before : List ReachRow) (r : ReachRow) → are_steps graph m before rows ≡ true → IsStep graph m (before ++ rows) r → are_steps graph m before (rows ++ r ∷ []) ≡ true
unfolding are_steps
steps_push graph m [] before r h s = rw (step_back graph m before r (subst (λ (z : List ReachRow). IsStep graph m z r) (append-nil before) s)) refl
steps_push graph m (x ∷ rows) before r h s =
    let a = and_parts (is_step graph m before x) (are_steps graph m (before ++ x ∷ []) rows) h in
    and_from (is_step graph m before x) (are_steps graph m (before ++ x ∷ []) (rows ++ r ∷ [])) a.0
    (steps_push graph m rows (before ++ x ∷ []) r a.1 (subst (λ (z : List ReachRow). IsStep graph m z r) (sym (append_assoc before (x ∷ []) rows)) s))

-- ---- what a search keeps

-- all rows begin at one member
abbrev pub are_from : ℕ → List ReachRow → Bool
are_from m rows = list_all (λ (r : ReachRow). r.from == m) rows

pub record Finds (graph : List (List ℕ)) (m : ℕ) (rows : List ReachRow) : Type 0 where
  pub steps : are_steps graph m [] rows ≡ true
  pub from : are_from m rows ≡ true

-- rows with more of them, which hold the needs of one member more
pub record More (graph : List (List ℕ)) (m : ℕ) (rows after : List ReachRow) (numbers : List ℕ) : Type 0 where
  pub more : List ReachRow
  pub is : after ≡ rows ++ more
  pub finds : Finds graph m after
  pub seen : list_all (is_seen m after) numbers ≡ true

all_seen_front : (m : ℕ) (rows more : List ReachRow) (numbers : List ℕ) → list_all (is_seen m rows) numbers ≡ true → list_all (is_seen m (rows ++ more)) numbers ≡ true
all_seen_front m rows more numbers all = all_from (is_seen m (rows ++ more)) numbers (λ k here. seen_front m rows more k (all_has (is_seen m rows) numbers k all here))

push_from : (m to via : ℕ) (rows : List ReachRow) → are_from m rows ≡ true → are_from m (rows ++ row m to via ∷ []) ≡ true
push_from m to via rows h =
    list_all-append (λ (r : ReachRow). r.from == m) rows (row m to via ∷ []) ∙ and_from (are_from m rows) (are_from m (row m to via ∷ [])) h (and_from (m == m) true (eq-eqb m m refl) refl)

found_old : (m via : ℕ) (rows : List ReachRow) (k : ℕ) → is_seen m rows k ≡ true → found m via rows k ≡ rows
unfolding found
found_old m via rows k t = rw t refl

found_new : (m via : ℕ) (rows : List ReachRow) (k : ℕ) → is_seen m rows k ≡ false → found m via rows k ≡ rows ++ row m k via ∷ []
unfolding found
found_new m via rows k f = rw f refl

search : (graph : List (List ℕ)) (m via : ℕ) (numbers : List ℕ) (rows : List ReachRow) → Finds graph m rows → is_seen m rows via ≡ true → ((k : ℕ) → has_number numbers k ≡ true → has_number (needs graph via) k ≡ true)
    → More graph m rows (fold (found m via) rows numbers) numbers
search graph m via [] rows f by sub = record { more = []; is = sym (append-nil rows); finds = f; seen = refl }
search graph m via (k ∷ numbers) rows f by sub =
    let rest : (j : ℕ) → has_number numbers j ≡ true → has_number (needs graph via) j ≡ true = λ j t. sub j (or_right (k == j) (has_number numbers j) t) in
    elim (cases_Bool (is_seen m rows k)) [
      | inl t ↦
          let i : More graph m rows (fold (found m via) rows numbers) numbers = search graph m via numbers rows f by rest in
          let same : fold (found m via) rows (k ∷ numbers) ≡ fold (found m via) rows numbers = ap (λ (z : List ReachRow). fold (found m via) z numbers) (found_old m via rows k t) in
          let here : is_seen m (fold (found m via) rows numbers) k ≡ true = subst (λ (z : List ReachRow). is_seen m z k ≡ true) (sym i.is) (seen_front m rows i.more k t) in
          record {
            more = i.more;
            is = same ∙ i.is;
            finds = subst (λ (z : List ReachRow). Finds graph m z) (sym same) i.finds;
            seen = subst (λ (z : List ReachRow). list_all (is_seen m z) (k ∷ numbers) ≡ true) (sym same) (and_from (is_seen m (fold (found m via) rows numbers) k) (list_all (is_seen m (fold (found m via) rows numbers)) numbers) here i.seen);
          }
      | inr new ↦
          let next : List ReachRow = rows ++ row m k via ∷ [] in
          let step : IsStep graph m rows (row m k via) = record { new = new; by = by; needs = sub k (or_left (k == k) (has_number numbers k) (eq-eqb k k refl)) } in
          let f' : Finds graph m next = record { steps = steps_push graph m rows [] (row m k via) f.steps step; from = push_from m k via rows f.from } in
          let i : More graph m next (fold (found m via) next numbers) numbers = search graph m via numbers next f' (seen_front m rows (row m k via ∷ []) via by) rest in
          let same : fold (found m via) rows (k ∷ numbers) ≡ fold (found m via) next numbers = ap (λ (z : List ReachRow). fold (found m via) z numbers) (found_new m via rows k new) in
          let there : is_seen m next k ≡ true = or_right (k == m) (among next k) (among_back rows (row m k via ∷ []) k (or_left (k == k) false (eq-eqb k k refl))) in
          let here : is_seen m (fold (found m via) next numbers) k ≡ true = subst (λ (z : List ReachRow). is_seen m z k ≡ true) (sym i.is) (seen_front m next i.more k there) in
          record {
            more = row m k via ∷ i.more;
            is = same ∙ (i.is ∙ append_assoc rows (row m k via ∷ []) i.more);
            finds = subst (λ (z : List ReachRow). Finds graph m z) (sym same) i.finds;
            seen = subst (λ (z : List ReachRow). list_all (is_seen m z) (k ∷ numbers) ≡ true) (sym same) (and_from (is_seen m (fold (found m via) next numbers) k) (list_all (is_seen m (fold (found m via) next numbers)) numbers) here i.seen);
          }
    ]

-- ---- the whole search

-- each number of a needed member is a member's
abbrev pub IsNumbered : List (List ℕ) → Type 0
IsNumbered graph = (i k : ℕ) → has_number (needs graph i) k ≡ true → k < length graph

pub record Searched (graph : List (List ℕ)) (m next : ℕ) (rows : List ReachRow) : Type 0 where
  pub finds : Finds graph m rows
  pub self : holds_needs graph m rows m ≡ true
  pub before : (i : ℕ) (r : ReachRow) → i < next → slice_get rows i ≡ Some r → holds_needs graph m rows r.to ≡ true

-- the members to which rows lead, in order
abbrev pub reached_by : List ReachRow → List ℕ
reached_by rows = map (λ (r : ReachRow). r.to) rows

among_is : (rows : List ReachRow) (k : ℕ) → has_number (reached_by rows) k ≡ among rows k
among_is [] k = refl
among_is (r ∷ rows) k = ap (λ (b : Bool). r.to == k || b) (among_is rows k)

-- the rows' members are distinct, so there are no more rows than members
distinct_steps : (graph : List (List ℕ)) (m : ℕ) (rows before : List ReachRow) → are_steps graph m before rows ≡ true → (IsDistinct eqb (reached_by rows)) × ((k : ℕ) → among rows k ≡ true → among before k ≡ false)
distinct_steps graph m [] before h = (distinct_nil, λ k t. absurd (false≢true t))
distinct_steps graph m (r ∷ rows) before h =
    let s = steps_cons graph m before r rows h in
    let i : (IsDistinct eqb (reached_by rows)) × ((k : ℕ) → among rows k ≡ true → among (before ++ r ∷ []) k ≡ false) = distinct_steps graph m rows (before ++ r ∷ []) s.1 in (
      distinct_cons r.to (reached_by rows) (among_is rows r.to ∙ not_later r rows before i.1) i.0,
      λ k t. elim (or_cases (r.to == k) (among rows k) t) [
        | inl e ↦ subst (λ (z : ℕ). among before z ≡ false) (eqb-true r.to k e) (or_parts (r.to == m) (among before r.to) s.0.new).1
        | inr later ↦ (or_parts (among before k) (among (r ∷ []) k) (sym (list_any-append (λ (x : ReachRow). x.to == k) before (r ∷ [])) ∙ i.1 k later)).0
      ],
    )
  where
    not_later : (r : ReachRow) (rows before : List ReachRow) → ((k : ℕ) → among rows k ≡ true → among (before ++ r ∷ []) k ≡ false) → among rows r.to ≡ false
    not_later r rows before apart = elim (cases_Bool (among rows r.to)) [
      | inl t ↦ absurd (false≢true (sym (apart r.to t) ∙ among_back before (r ∷ []) r.to (or_left (r.to == r.to) false (eq-eqb r.to r.to refl))))
      | inr f ↦ f
    ]

steps_within : (graph : List (List ℕ)) (m : ℕ) (rows before : List ReachRow) → IsNumbered graph → are_steps graph m before rows ≡ true → (k : ℕ) → among rows k ≡ true → k < length graph
steps_within graph m [] before numbered h k t = absurd (false≢true t)
steps_within graph m (r ∷ rows) before numbered h k t =
    let s = steps_cons graph m before r rows h in
    elim (or_cases (r.to == k) (among rows k) t) [
      | inl e ↦ subst (λ (z : ℕ). z < length graph) (eqb-true r.to k e) (numbered r.via r.to s.0.needs)
      | inr later ↦ steps_within graph m rows (before ++ r ∷ []) numbered s.1 k later
    ]

few_rows : (graph : List (List ℕ)) (m : ℕ) (rows : List ReachRow) → IsNumbered graph → are_steps graph m [] rows ≡ true → length rows ≤ length graph
few_rows graph m rows numbered h =
    let d = distinct_steps graph m rows [] h in
    let le : length (reached_by rows) ≤ length (range_with_len 0 (length graph)) = no_longer (reached_by rows) (range_with_len 0 (length graph)) d.0
    (λ k t. range_has (length graph) 0 k (omega arith) (lt k (steps_within graph m rows [] numbered h k (sym (among_is rows k) ∙ t)))) in
    omega (arith, le, length-map rows (λ (r : ReachRow). r.to), length-range_with_len 0 (length graph))
  where
    lt : (k : ℕ) → k < length graph → k < 0 + length graph
    lt k h = omega arith

closed_by : (q : ℕ → Bool) (rows : List ReachRow) → ((i : ℕ) (r : ReachRow) → i < length rows → slice_get rows i ≡ Some r → q r.to ≡ true) → list_all (λ (r : ReachRow). q r.to) rows ≡ true
closed_by q [] each = refl
closed_by q (r ∷ rows) each =
    and_from (q r.to) (list_all (λ (x : ReachRow). q x.to) rows) (each 0 r (omega arith) refl) (closed_by q rows (λ i x small at. each (suc i) x (omega arith) at))

-- what has no row left to follow is closed
all_done : (graph : List (List ℕ)) (m next : ℕ) (rows : List ReachRow) → Searched graph m next rows → length rows ≤ next → is_closed graph m rows ≡ true
unfolding is_closed
all_done graph m next rows s past =
    and_from (holds_needs graph m rows m) (list_all (λ (r : ReachRow). holds_needs graph m rows r.to) rows) s.self (closed_by (holds_needs graph m rows) rows (λ i r small at. s.before i r (omega arith) at))

get_front : (rows more : List ReachRow) (i : ℕ) (r : ReachRow) → i < length rows → slice_get (rows ++ more) i ≡ Some r → slice_get rows i ≡ Some r
get_front [] more i r small at = absurd (omega arith)
get_front (x ∷ rows) more zero r small at = at
get_front (x ∷ rows) more (suc i) r small at = get_front rows more i r (omega arith) at

get_below : (rows : List ReachRow) (i : ℕ) (r : ReachRow) → slice_get rows i ≡ Some r → i < length rows
get_below [] i r at = absurd (none_some r at)
  where
    none_some : (r : ReachRow) → None ≡ Some r → ⊥
    none_some r h = cc
get_below (x ∷ rows) zero r at = omega arith
get_below (x ∷ rows) (suc i) r at = let lt : i < length rows = get_below rows i r at in omega arith

get_none : (rows : List ReachRow) (i : ℕ) → slice_get rows i ≡ None → length rows ≤ i
get_none [] i at = omega arith
get_none (x ∷ rows) zero at = absurd (some_none x at)
  where
    some_none : (r : ReachRow) → Some r ≡ None → ⊥
    some_none r h = cc
get_none (x ∷ rows) (suc i) at = let le : length rows ≤ i = get_none rows i at in omega arith

get_among : (rows : List ReachRow) (i : ℕ) (r : ReachRow) → slice_get rows i ≡ Some r → among rows r.to ≡ true
get_among [] i r at = absurd (none_some r at)
  where
    none_some : (r : ReachRow) → None ≡ Some r → ⊥
    none_some r h = cc
get_among (x ∷ rows) zero r at = or_left (x.to == r.to) (among rows r.to) (ap (λ (z : ℕ). z == r.to) (ap (λ (z : ReachRow). z.to) (same_some x r at)) ∙ eq-eqb r.to r.to refl)
  where
    same_some : (x r : ReachRow) → Some x ≡ Some r → x ≡ r
    same_some x r h = cc
get_among (x ∷ rows) (suc i) r at = or_right (x.to == r.to) (among rows r.to) (get_among rows i r at)

one_step : (graph : List (List ℕ)) (m next : ℕ) (rows : List ReachRow) (r : ReachRow) → Searched graph m next rows → slice_get rows next ≡ Some r → Searched graph m (next + 1) (found_by graph m rows r.to)
one_step graph m next rows r s at =
    let i : More graph m rows (found_by graph m rows r.to) (needs graph r.to) =
    search graph m r.to (needs graph r.to) rows s.finds (or_right (r.to == m) (among rows r.to) (get_among rows next r at)) (λ k t. t) in
    let holds : (k : ℕ) → holds_needs graph m rows k ≡ true → holds_needs graph m (found_by graph m rows r.to) k ≡ true =
    λ k h. subst (λ (z : List ReachRow). list_all (is_seen m z) (needs graph k) ≡ true) (sym i.is) (all_seen_front m rows i.more (needs graph k) h) in
    record {
      finds = i.finds;
      self = holds m s.self;
      before = λ j x small there. elim (cases_lt j next) [
        | inl lt ↦ holds x.to (s.before j x lt (get_front rows i.more j x (below j lt (get_below rows next r at)) (sym (ap (λ (z : List ReachRow). slice_get z j) i.is) ∙ there)))
        | inr ge ↦
            let here : j ≡ next = omega arith in
            let old : slice_get rows next ≡ Some x = get_front rows i.more next x (get_below rows next r at) (sym (ap (λ (z : List ReachRow). slice_get z next) i.is) ∙ (ap (slice_get (found_by graph m rows r.to)) (sym here) ∙ there)) in
            subst (λ (z : ReachRow). holds_needs graph m (found_by graph m rows r.to) z.to ≡ true) (same_some r x (sym at ∙ old)) i.seen
      ];
    }
  where
    below : (j : ℕ) {n k : ℕ} → j < n → n < k → j < k
    below j h l = omega arith

    same_some : (x r : ReachRow) → Some x ≡ Some r → x ≡ r
    same_some x r h = cc

pub record IsDone (graph : List (List ℕ)) (m : ℕ) (rows : List ReachRow) : Type 0 where
  pub finds : Finds graph m rows
  pub closed : is_closed graph m rows ≡ true

spread_done : (graph : List (List ℕ)) (m most next : ℕ) (rows : List ReachRow) → IsNumbered graph → Searched graph m next rows → length graph ≤ most + next → IsDone graph m (spread graph m most next rows)
unfolding spread
spread_done graph m zero next rows numbered s enough =
    let few : length rows ≤ length graph = few_rows graph m rows numbered s.finds.steps in
    record { finds = s.finds; closed = all_done graph m next rows s (omega (arith, few, enough)) }
spread_done graph m (suc most) next rows numbered s enough =
    at_row (slice_get rows next) refl (λ r e. spread_done graph m most (next + 1) (found_by graph m rows r.to) numbered (one_step graph m next rows r s e) (omega (arith, enough)))
  where
    at_row : (o : Option ReachRow) → slice_get rows next ≡ o → ((r : ReachRow) → slice_get rows next ≡ Some r → IsDone graph m (spread graph m most (next + 1) (found_by graph m rows r.to)))
        → IsDone graph m (from_row o rows (λ r. spread graph m most (next + 1) (found_by graph m rows r.to)))
    at_row None e later = record { finds = s.finds; closed = all_done graph m next rows s (get_none rows next e) }
    at_row (Some r) e later = later r e

no_rows : (graph : List (List ℕ)) (m : ℕ) → Finds graph m []
unfolding are_steps
no_rows graph m = record { steps = refl; from = refl }

pub reached_done : (graph : List (List ℕ)) (m : ℕ) → IsNumbered graph → IsDone graph m (reached graph m)
reached_done graph m numbered =
    let i : More graph m [] (found_by graph m [] m) (needs graph m) = search graph m m (needs graph m) [] (no_rows graph m) (or_left (m == m) false (eq-eqb m m refl)) (λ k t. t) in
    spread_done graph m (length graph) 0 (found_by graph m [] m) numbered (record { finds = i.finds; self = i.seen; before = λ j x small at. absurd (omega (arith, small)) }) (omega arith)

-- ---- the rows of all members

all_group : (p : ReachRow → Bool) (f : ℕ → List ReachRow) (n a : ℕ) → ((k : ℕ) → a ≤ k → k < a + n → list_all p (f k) ≡ true) → list_all p (flat_map f (range_with_len a n)) ≡ true
all_group p f zero a each = refl
all_group p f (suc n) a each =
    list_all-append p (f a) (flat_map f (range_with_len (a + 1) n)) ∙ and_from (list_all p (f a)) (list_all p (flat_map f (range_with_len (a + 1) n))) (each a (omega arith) (omega arith))
    (all_group p f n (a + 1) (λ k low high. each k (omega (arith, low)) (omega (arith, high))))

ascends_group : (last a : ℕ) (rows rest : List ReachRow) → last ≤ a → are_from a rows ≡ true → ((l : ℕ) → l ≤ a → ascends l rest ≡ true) → ascends last (rows ++ rest) ≡ true
ascends_group last a [] rest le from later = later last le
ascends_group last a (r ∷ rows) rest le from later =
    let parts = and_parts (r.from == a) (are_from a rows) from in
    let same : r.from ≡ a = eqb-true r.from a parts.0 in
    and_from (nat_le last r.from) (ascends r.from (rows ++ rest)) (le-leb last r.from (omega arith)) (ascends_group r.from a rows rest (omega arith) parts.1 later)

all_ascend : (f : ℕ → List ReachRow) (n a last : ℕ) → ((k : ℕ) → are_from k (f k) ≡ true) → last ≤ a → ascends last (flat_map f (range_with_len a n)) ≡ true
all_ascend f zero a last from le = refl
all_ascend f (suc n) a last from le = ascends_group last a (f a) (flat_map f (range_with_len (a + 1) n)) le (from a) (λ l low. all_ascend f n (a + 1) l from (omega arith))

rows_append : (xs ys : List ReachRow) (m : ℕ) → rows_of (xs ++ ys) m ≡ rows_of xs m ++ rows_of ys m
rows_append [] ys m = refl
rows_append (r ∷ xs) ys m =
    elim (cases_Bool (r.from == m)) [
      | inl t ↦ rw (t, rows_append xs ys m) refl
      | inr f ↦ rw (f, rows_append xs ys m) refl
    ]

rows_own : (rows : List ReachRow) (m : ℕ) → are_from m rows ≡ true → rows_of rows m ≡ rows
rows_own [] m h = refl
rows_own (r ∷ rows) m h =
    let parts = and_parts (r.from == m) (are_from m rows) h in
    rw (parts.0, rows_own rows m parts.1) refl

rows_other : (rows : List ReachRow) (k m : ℕ) → k ≢ m → are_from k rows ≡ true → rows_of rows m ≡ []
rows_other [] k m ne h = refl
rows_other (r ∷ rows) k m ne h =
    let parts = and_parts (r.from == k) (are_from k rows) h in
    let off : (r.from == m) ≡ false = ne_eqb r.from m (λ e. ne (sym (eqb-true r.from k parts.0) ∙ e)) in
    rw off (rows_other rows k m ne parts.1)

rows_past : (f : ℕ → List ReachRow) (n a m : ℕ) → ((k : ℕ) → are_from k (f k) ≡ true) → m < a → rows_of (flat_map f (range_with_len a n)) m ≡ []
rows_past f zero a m from lt = refl
rows_past f (suc n) a m from lt =
    rows_append (f a) (flat_map f (range_with_len (a + 1) n)) m ∙ rw (rows_other (f a) a m (λ e. apart a m lt e) (from a)) (rows_past f n (a + 1) m from (omega arith))
  where
    apart : (a m : ℕ) → m < a → a ≡ m → ⊥
    apart a m lt e = omega arith

rows_at : (f : ℕ → List ReachRow) (n a m : ℕ) → ((k : ℕ) → are_from k (f k) ≡ true) → a ≤ m → m < a + n → rows_of (flat_map f (range_with_len a n)) m ≡ f m
rows_at f zero a m from low high = absurd (omega arith)
rows_at f (suc n) a m from low high =
    elim (cases_lt a m) [
      | inl lt ↦ rows_append (f a) (flat_map f (range_with_len (a + 1) n)) m ∙ rw (rows_other (f a) a m (λ e. apart a m lt e) (from a)) (rows_at f n (a + 1) m from (omega arith) (omega arith))
      | inr ge ↦
          let same : a ≡ m = omega arith in
          rows_append (f a) (flat_map f (range_with_len (a + 1) n)) m ∙ (ap (λ (z : List ReachRow). rows_of (f a) m ++ z) (rows_past f n (a + 1) m from (omega arith)) ∙ (append-nil (rows_of (f a) m)
          ∙ (ap (λ (z : ℕ). rows_of (f z) m) same ∙ rows_own (f m) m (from m))))
    ]
  where
    apart : (a m : ℕ) → a < m → a ≡ m → ⊥
    apart a m lt e = omega arith

numbered_rows : (graph : List (List ℕ)) (m : ℕ) (rows before : List ReachRow) → IsNumbered graph → m < length graph → ((k : ℕ) → among before k ≡ true → k < length graph) → are_from m rows ≡ true → are_steps graph m before rows ≡ true → list_all (is_numbered (length graph)) rows ≡ true
numbered_rows graph m [] before numbered small old from h = refl
numbered_rows graph m (r ∷ rows) before numbered small old from h =
    let s = steps_cons graph m before r rows h in
    let parts = and_parts (r.from == m) (are_from m rows) from in
    let is_from : r.from < length graph = subst (λ (z : ℕ). z < length graph) (sym (eqb-true r.from m parts.0)) small in
    let is_to : r.to < length graph = numbered r.via r.to s.0.needs in
    let is_via : r.via < length graph = elim (or_cases (r.via == m) (among before r.via) s.0.by) [
      | inl e ↦ subst (λ (z : ℕ). z < length graph) (sym (eqb-true r.via m e)) small
      | inr t ↦ old r.via t
    ] in
    and_from (is_numbered (length graph) r) (list_all (is_numbered (length graph)) rows)
    (and_from (nat_lt r.from (length graph) && nat_lt r.to (length graph)) (nat_lt r.via (length graph)) (and_from (nat_lt r.from (length graph)) (nat_lt r.to (length graph)) (lt-ltb r.from (length graph) is_from) (lt-ltb r.to (length graph) is_to)) (lt-ltb r.via (length graph) is_via))
    (numbered_rows graph m rows (before ++ r ∷ []) numbered small (λ k t. elim (among_push before r k t) [ inl o ↦ old k o | inr e ↦ subst (λ (z : ℕ). z < length graph) e is_to ]) parts.1 s.1)

pub all_reached_right : (graph : List (List ℕ)) → IsNumbered graph → is_right graph (all_reached graph) ≡ true
unfolding is_right all_reached
all_reached_right graph numbered =
    let done : (m : ℕ) → IsDone graph m (reached graph m) = λ m. reached_done graph m numbered in
    let from : (k : ℕ) → are_from k (reached graph k) ≡ true = λ k. (done k).finds.from in
    and_from (ascends 0 (all_reached graph) && list_all (is_numbered (length graph)) (all_reached graph)) (list_all (is_right_at graph (all_reached graph)) (range_with_len 0 (length graph)))
    (and_from (ascends 0 (all_reached graph)) (list_all (is_numbered (length graph)) (all_reached graph))
    (all_ascend (reached graph) (length graph) 0 0 from (omega arith))
    (all_group (is_numbered (length graph)) (reached graph) (length graph) 0 (λ k low high. numbered_rows graph k (reached graph k) [] numbered (small k high) (λ j t. absurd (false≢true t)) (from k) (done k).finds.steps)))
    (all_from (is_right_at graph (all_reached graph)) (range_with_len 0 (length graph)) (λ m here.
    let w : (0 ≤ m) × (m < 0 + length graph) = range_within (length graph) 0 m here in
    subst (λ (z : List ReachRow). (are_steps graph m [] z && is_closed graph m z) ≡ true) (sym (rows_at (reached graph) (length graph) 0 m from w.0 w.1))
    (and_from (are_steps graph m [] (reached graph m)) (is_closed graph m (reached graph m)) (done m).finds.steps (done m).closed)))
  where
    small : (k : ℕ) → k < 0 + length graph → k < length graph
    small k h = omega arith
