-- Rows that are right are the relation of chains.
use Rattle.std.proofs.Common.{◌≡◌, ℕ, ◌<◌, ◌≤◌, Bool, true, false, ◌&&◌, not, List, [], ◌∷◌, ◌++◌, length, refl, sym, ap, subst, ◌∙◌, arith, inl, inr, append_assoc}
use Rattle.std.specs.Prelude.{◌⊎◌, ◌≢◌, ◌==◌, nat_lt}
use Rattle.std.specs.List.{list_all, range_with_len}
use Rattle.std.proofs.lemmas.Bool.{cases_Bool, false≢true, and_parts, or_cases, or_left, or_right, eqb-true, eq-eqb, not-true, ltb-true, cases_lt}
use Rattle.std.proofs.lemmas.List.{append-nil, get_or_past}
use Rattle.std.proofs.lemmas.List.Folds.{list_any-append}
use Rattle.pl_init.specs.declared.relation.ReachRow.{ReachRow}
use Rattle.pl_init.specs.Graph.{needs, has_number}
use Rattle.pl_init.specs.Found.{among, is_seen}
use Rattle.pl_init.specs.Right.{ascends, is_numbered, rows_of, is_step, are_steps, holds_needs, is_closed, is_right_at, is_right, reaches}
use Rattle.pl_init.proofs.ListLaws.{all_has, range_has}
use Rattle.pl_init.proofs.ChainLaws.{Chain, Edge, Next}

-- ---- one row more

pub among_push : (rows : List ReachRow) (r : ReachRow) (k : ℕ) → among (rows ++ r ∷ []) k ≡ true → (among rows k ≡ true) ⊎ (r.to ≡ k)
among_push rows r k h =
    elim (or_cases (among rows k) (among (r ∷ []) k) (sym (list_any-append (λ (x : ReachRow). x.to == k) rows (r ∷ [])) ∙ h)) [
      | inl old ↦ inl old
      | inr new ↦ elim (or_cases (r.to == k) false new) [ inl e ↦ inr (eqb-true r.to k e) | inr none ↦ absurd (false≢true none) ]
    ]

pub among_front : (rows more : List ReachRow) (k : ℕ) → among rows k ≡ true → among (rows ++ more) k ≡ true
among_front rows more k h = list_any-append (λ (x : ReachRow). x.to == k) rows more ∙ or_left (among rows k) (among more k) h

pub among_back : (rows more : List ReachRow) (k : ℕ) → among more k ≡ true → among (rows ++ more) k ≡ true
among_back rows more k h = list_any-append (λ (x : ReachRow). x.to == k) rows more ∙ or_right (among rows k) (among more k) h

pub seen_front : (m : ℕ) (rows more : List ReachRow) (k : ℕ) → is_seen m rows k ≡ true → is_seen m (rows ++ more) k ≡ true
seen_front m rows more k h =
    elim (or_cases (k == m) (among rows k) h) [
      | inl e ↦ or_left (k == m) (among (rows ++ more) k) e
      | inr t ↦ or_right (k == m) (among (rows ++ more) k) (among_front rows more k t)
    ]

-- ---- what one step says

pub record IsStep (graph : List (List ℕ)) (m : ℕ) (before : List ReachRow) (r : ReachRow) : Type 0 where
  pub new : is_seen m before r.to ≡ false
  pub by : is_seen m before r.via ≡ true
  pub needs : has_number (needs graph r.via) r.to ≡ true

pub step_is : (graph : List (List ℕ)) (m : ℕ) (before : List ReachRow) (r : ReachRow) → is_step graph m before r ≡ true → IsStep graph m before r
unfolding is_step
step_is graph m before r h =
    let a = and_parts (not (is_seen m before r.to) && is_seen m before r.via) (has_number (needs graph r.via) r.to) h in
    let b = and_parts (not (is_seen m before r.to)) (is_seen m before r.via) a.0 in
    record { new = not-true (is_seen m before r.to) b.0; by = b.1; needs = a.1 }

pub step_back : (graph : List (List ℕ)) (m : ℕ) (before : List ReachRow) (r : ReachRow) → IsStep graph m before r → is_step graph m before r ≡ true
unfolding is_step
step_back graph m before r s = rw (s.new, s.by, s.needs) refl

pub steps_cons : (graph : List (List ℕ)) (m : ℕ) (before : List ReachRow) (r : ReachRow) (rows : List ReachRow) → are_steps graph m before (r ∷ rows) ≡ true → (IsStep graph m before r) × (are_steps graph m (before ++ r ∷ []) rows ≡ true)
unfolding are_steps
steps_cons graph m before r rows h =
    let a = and_parts (is_step graph m before r) (are_steps graph m (before ++ r ∷ []) rows) h in
    (step_is graph m before r a.0, a.1)

-- ---- rows are reached

-- each member to which rows lead is another one, to which a chain leads
abbrev pub AreReached : List (List ℕ) → ℕ → List ReachRow → Type 0
AreReached graph m rows = (k : ℕ) → among rows k ≡ true → Chain graph m k × (k ≢ m)

one_more : (graph : List (List ℕ)) (m : ℕ) (before : List ReachRow) (r : ReachRow) → AreReached graph m before → IsStep graph m before r → AreReached graph m (before ++ r ∷ [])
one_more graph m before r old s k h =
    elim (among_push before r k h) [
      | inl t ↦ old k t
      | inr e ↦ (
        subst (λ (z : ℕ). Chain graph m z) e (elim (or_cases (r.via == m) (among before r.via) s.by) [
          | inl self ↦ Edge r.to (subst (λ (z : ℕ). has_number (needs graph z) r.to ≡ true) (eqb-true r.via m self) s.needs)
          | inr found ↦ Next r.via r.to (old r.via found).0 s.needs
        ]),
        λ same. false≢true (sym s.new ∙ or_left (r.to == m) (among before r.to) (eq-eqb r.to m (e ∙ same))),
      )
    ]

pub steps_reach : (graph : List (List ℕ)) (m : ℕ) (rows before : List ReachRow) → AreReached graph m before → are_steps graph m before rows ≡ true → AreReached graph m (before ++ rows)
steps_reach graph m [] before old h k t = old k (subst (λ (z : List ReachRow). among z k ≡ true) (append-nil before) t)
steps_reach graph m (r ∷ rows) before old h k t =
    let s = steps_cons graph m before r rows h in
    steps_reach graph m rows (before ++ r ∷ []) (one_more graph m before r old s.0) s.1 k (subst (λ (z : List ReachRow). among z k ≡ true) (sym (append_assoc before (r ∷ []) rows)) t)

-- ---- what is reached is in the rows

all_among : (q : ℕ → Bool) (rows : List ReachRow) (k : ℕ) → list_all (λ (r : ReachRow). q r.to) rows ≡ true → among rows k ≡ true → q k ≡ true
all_among q [] k all here = absurd (false≢true here)
all_among q (r ∷ rows) k all here =
    let parts = and_parts (q r.to) (list_all (λ (x : ReachRow). q x.to) rows) all in
    elim (or_cases (r.to == k) (among rows k) here) [
      | inl e ↦ subst (λ (z : ℕ). q z ≡ true) (eqb-true r.to k e) parts.0
      | inr more ↦ all_among q rows k parts.1 more
    ]

pub chain_seen : (graph : List (List ℕ)) (m k : ℕ) (rows : List ReachRow) → is_closed graph m rows ≡ true → Chain graph m k → is_seen m rows k ≡ true
unfolding is_closed
chain_seen graph m k rows closed (Edge _ e) =
    let parts = and_parts (holds_needs graph m rows m) (list_all (λ (r : ReachRow). holds_needs graph m rows r.to) rows) closed in
    all_has (is_seen m rows) (needs graph m) k parts.0 e
chain_seen graph m k rows closed (Next j _ c e) =
    let parts = and_parts (holds_needs graph m rows m) (list_all (λ (r : ReachRow). holds_needs graph m rows r.to) rows) closed in
    let all : holds_needs graph m rows j ≡ true = elim (or_cases (j == m) (among rows j) (chain_seen graph m j rows closed c)) [
      | inl self ↦ subst (λ (z : ℕ). holds_needs graph m rows z ≡ true) (sym (eqb-true j m self)) parts.0
      | inr found ↦ all_among (holds_needs graph m rows) rows j parts.1 found
    ] in
    all_has (is_seen m rows) (needs graph j) k all e

-- ---- the rows of one member among all

pub reaches_is : (rows : List ReachRow) (i j : ℕ) → reaches rows i j ≡ among (rows_of rows i) j
reaches_is [] i j = refl
reaches_is (r ∷ rows) i j =
    elim (cases_Bool (r.from == i)) [
      | inl t ↦ rw (t, reaches_is rows i j) refl
      | inr f ↦ rw (f, reaches_is rows i j) refl
    ]

-- ---- the relation

pub record IsRight (graph : List (List ℕ)) (rows : List ReachRow) : Type 0 where
  pub ascends : ascends 0 rows ≡ true
  pub numbered : list_all (is_numbered (length graph)) rows ≡ true
  pub each : (m : ℕ) → m < length graph → is_right_at graph rows m ≡ true

pub right_is : (graph : List (List ℕ)) (rows : List ReachRow) → is_right graph rows ≡ true → IsRight graph rows
unfolding is_right
right_is graph rows h =
    let a = and_parts (ascends 0 rows && list_all (is_numbered (length graph)) rows) (list_all (is_right_at graph rows) (range_with_len 0 (length graph))) h in
    let b = and_parts (ascends 0 rows) (list_all (is_numbered (length graph)) rows) a.0 in
    record { ascends = b.0; numbered = b.1; each = λ m small. all_has (is_right_at graph rows) (range_with_len 0 (length graph)) m a.1 (range_has (length graph) 0 m (omega arith) (omega arith)) }

from_below : (n : ℕ) (rows : List ReachRow) (i j : ℕ) → list_all (is_numbered n) rows ≡ true → reaches rows i j ≡ true → i < n
from_below n [] i j all here = absurd (false≢true here)
from_below n (r ∷ rows) i j all here =
    let parts = and_parts (is_numbered n r) (list_all (is_numbered n) rows) all in
    elim (or_cases (r.from == i && r.to == j) (reaches rows i j) here) [
      | inl e ↦
          let same : r.from ≡ i = eqb-true r.from i (and_parts (r.from == i) (r.to == j) e).0 in
          let first = and_parts (nat_lt r.from n && nat_lt r.to n) (nat_lt r.via n) parts.0 in
          let lt : r.from < n = ltb-true r.from n (and_parts (nat_lt r.from n) (nat_lt r.to n) first.0).0 in
          omega arith
      | inr more ↦ from_below n rows i j parts.1 more
    ]

no_needs : (graph : List (List ℕ)) (i k : ℕ) → length graph ≤ i → has_number (needs graph i) k ≡ true → ⊥
no_needs graph i k past h = false≢true (sym (ap (λ (z : List ℕ). has_number z k) (get_or_past graph i [] past)) ∙ h)

pub chain_below : (graph : List (List ℕ)) (i k : ℕ) → Chain graph i k → i < length graph
chain_below graph i k (Edge _ e) = elim (cases_lt i (length graph)) [ inl lt ↦ lt | inr past ↦ absurd (no_needs graph i k past e) ]
chain_below graph i k (Next j _ c e) = chain_below graph i j c

-- rows that are right lead from a member to another exactly where a chain does
pub right_reached : (graph : List (List ℕ)) (rows : List ReachRow) → IsRight graph rows → (i j : ℕ) → reaches rows i j ≡ true → Chain graph i j × (j ≢ i)
right_reached graph rows right i j h =
    let small : i < length graph = from_below (length graph) rows i j right.numbered h in
    let at = and_parts (are_steps graph i [] (rows_of rows i)) (is_closed graph i (rows_of rows i)) (right.each i small) in
    steps_reach graph i (rows_of rows i) [] (λ k t. absurd (false≢true t)) at.0 j (sym (reaches_is rows i j) ∙ h)

pub right_complete : (graph : List (List ℕ)) (rows : List ReachRow) → IsRight graph rows → (i j : ℕ) → Chain graph i j → j ≢ i → reaches rows i j ≡ true
right_complete graph rows right i j c other =
    let at = and_parts (are_steps graph i [] (rows_of rows i)) (is_closed graph i (rows_of rows i)) (right.each i (chain_below graph i j c)) in
    elim (or_cases (j == i) (among (rows_of rows i) j) (chain_seen graph i j (rows_of rows i) at.1 c)) [
      | inl e ↦ absurd (other (eqb-true j i e))
      | inr found ↦ reaches_is rows i j ∙ found
    ]
