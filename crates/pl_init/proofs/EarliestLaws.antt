-- What right rows show, and why the printed order is the earliest of the lawful ones.
use Rattle.std.proofs.Common.{◌≡◌, ◌<◌, ℕ, zero, suc, Bool, true, false, ◌&&◌, not, List, [], ◌∷◌, ◌++◌, length, Option, Some, None, refl, sym, ap, subst, ◌∙◌, inl, inr, append_assoc}
use Rattle.std.specs.Prelude.{◌⊎◌, ◌||◌, ◌==◌, nat_lt, find}
use Rattle.std.specs.List.{list_all, range_with_len}
use Rattle.std.proofs.lemmas.Bool.{false≢true, and_parts, or_cases, or_right, eq-eqb, eqb-true, ltb-true, cases_lt}
use Rattle.std.proofs.lemmas.List.{append-nil}
use Rattle.std.proofs.lemmas.List.Elements.{filter-append}
use Rattle.pl_scope.specs.Walk.{Walked}
use Rattle.pl_scope.specs.Members.{IsWalk}
use Rattle.pl_init.specs.declared.relation.ReachRow.{ReachRow}
use Rattle.pl_init.specs.Graph.{graph, has_number}
use Rattle.pl_init.specs.Leads.{Needs}
use Rattle.pl_init.specs.Found.{among}
use Rattle.pl_init.specs.Right.{is_numbered, rows_of, are_steps, is_closed, reaches, AreReaches}
use Rattle.pl_init.specs.Lawful.{precedes, is_next, with_next, ordered}
use Rattle.pl_init.specs.OrderText.{walk_rows, printed}
use Rattle.pl_init.specs.Laws.{RightRowsShowChains, PrintedIsLawful, PrintedTakesTheEarliest, PrintedIsEarliest, RightRowsGivePrinted}
use Rattle.pl_init.proofs.RightLaws.{IsStep, steps_cons, reaches_is, IsRight, right_is}
use Rattle.pl_init.proofs.RelationLaws.{edge_needs, relation, found_right, IsPrintedLawful, order_is}

-- ---- what each row shows

step_at : (graph : List (List ℕ)) (m : ℕ) (xs ys before : List ReachRow) (r : ReachRow) → are_steps graph m before (xs ++ r ∷ ys) ≡ true → IsStep graph m (before ++ xs) r
step_at graph m [] ys before r h = subst (λ (z : List ReachRow). IsStep graph m z r) (sym (append-nil before)) (steps_cons graph m before r ys h).0
step_at graph m (x ∷ xs) ys before r h =
    subst (λ (z : List ReachRow). IsStep graph m z r) (append_assoc before (x ∷ []) xs) (step_at graph m xs ys (before ++ x ∷ []) r (steps_cons graph m before x (xs ++ r ∷ ys) h).1)

numbered_at : (n : ℕ) (xs ys : List ReachRow) (r : ReachRow) → list_all (is_numbered n) (xs ++ r ∷ ys) ≡ true → is_numbered n r ≡ true
numbered_at n [] ys r all = (and_parts (is_numbered n r) (list_all (is_numbered n) ys) all).0
numbered_at n (x ∷ xs) ys r all = numbered_at n xs ys r (and_parts (is_numbered n x) (list_all (is_numbered n) (xs ++ r ∷ ys)) all).1

rows_split : (front back : List ReachRow) (r : ReachRow) → rows_of (front ++ r ∷ back) r.from ≡ rows_of front r.from ++ r ∷ rows_of back r.from
rows_split front back r = filter-append (λ (x : ReachRow). x.from == r.from) front (r ∷ back) ∙ (rw (eq-eqb r.from r.from refl) refl)

shown : (graph : List (List ℕ)) (rows front back : List ReachRow) (r : ReachRow) → IsRight graph rows → rows ≡ front ++ r ∷ back → IsStep graph r.from (rows_of front r.from) r
shown graph rows front back r right is =
    let numbered : is_numbered (length graph) r ≡ true = numbered_at (length graph) front back r (subst (λ (z : List ReachRow). list_all (is_numbered (length graph)) z ≡ true) is right.numbered) in
    let first = and_parts (nat_lt r.from (length graph) && nat_lt r.to (length graph)) (nat_lt r.via (length graph)) numbered in
    let small : r.from < length graph = ltb-true r.from (length graph) (and_parts (nat_lt r.from (length graph)) (nat_lt r.to (length graph)) first.0).0 in
    let at = and_parts (are_steps graph r.from [] (rows_of rows r.from)) (is_closed graph r.from (rows_of rows r.from)) (right.each r.from small) in
    step_at graph r.from (rows_of front r.from) (rows_of back r.from) [] r
    (subst (λ (z : List ReachRow). are_steps graph r.from [] z ≡ true) (ap (λ (z : List ReachRow). rows_of z r.from) is ∙ rows_split front back r) at.0)

pub rows_show_chains : RightRowsShowChains
rows_show_chains ws rows walk right = record { once = once; by = by; needs = needs }
  where
    step : (front back : List ReachRow) (r : ReachRow) → rows ≡ front ++ r ∷ back → IsStep (graph ws) r.from (rows_of front r.from) r
    step front back r is = shown (graph ws) rows front back r (right_is (graph ws) rows right) is

    once : (front back : List ReachRow) (r : ReachRow) → rows ≡ front ++ r ∷ back → reaches front r.from r.to ≡ true → ⊥
    once front back r is t =
        false≢true (sym (step front back r is).new ∙ or_right (r.to == r.from) (among (rows_of front r.from) r.to) (sym (reaches_is front r.from r.to) ∙ t))

    by : (front back : List ReachRow) (r : ReachRow) → rows ≡ front ++ r ∷ back → (r.via ≡ r.from) ⊎ (reaches front r.from r.via ≡ true)
    by front back r is = elim (or_cases (r.via == r.from) (among (rows_of front r.from) r.via) (step front back r is).by) [
      | inl self ↦ inl (eqb-true r.via r.from self)
      | inr found ↦ inr (reaches_is front r.from r.via ∙ found)
    ]

    needs : (front back : List ReachRow) (r : ReachRow) → rows ≡ front ++ r ∷ back → Needs ws r.via r.to
    needs front back r is = edge_needs ws r.via r.to (step front back r is).needs

-- ---- the printed order

both : (ws : Walked) → IsWalk ws → IsPrintedLawful ws (printed ws)
both ws walk = order_is ws (walk_rows ws) (printed ws) walk (found_right ws) refl

pub printed_lawful : PrintedIsLawful
printed_lawful ws walk = (both ws walk).lawful

pub printed_steps : PrintedTakesTheEarliest
printed_steps ws walk = (both ws walk).printed

-- another lawful order has there a member that is ready and does not stand yet, so no earlier one
pub printed_earliest : PrintedIsEarliest
printed_earliest ws walk other front back other_back m k law is other_is =
    elim (cases_lt k m) [
      | inl lt ↦ absurd ((both ws walk).printed.earliest front back m k is lt (law.once front other_back k other_is) (λ j p. law.behind front other_back k j other_is p))
      | inr le ↦ le
    ]

-- ---- the order by other rows

-- rows that lead from and to the same members
abbrev AreSame : List ReachRow → List ReachRow → Type 0
AreSame rows more = (i j : ℕ) → reaches rows i j ≡ reaches more i j

both_ways : (a b : Bool) → (a ≡ true → b ≡ true) → (b ≡ true → a ≡ true) → a ≡ b
both_ways true b to back = sym (to refl)
both_ways false true to back = back refl
both_ways false false to back = refl

are_same : (ws : Walked) (rows more : List ReachRow) → AreReaches ws rows → AreReaches ws more → AreSame rows more
are_same ws rows more one two i j = both_ways (reaches rows i j) (reaches more i j) (λ t. (two i j).1 ((one i j).0 t)) (λ t. (one i j).1 ((two i j).0 t))

precedes_same : (rows more : List ReachRow) (x y : ℕ) → AreSame rows more → precedes rows x y ≡ precedes more x y
unfolding precedes
precedes_same rows more x y same = rw (same y x, same x y) refl

all_same : (p q : ℕ → Bool) (xs : List ℕ) → ((k : ℕ) → p k ≡ q k) → list_all p xs ≡ list_all q xs
all_same p q [] same = refl
all_same p q (x ∷ xs) same = rw (same x, all_same p q xs same) refl

found_same : (p q : ℕ → Bool) (xs : List ℕ) → ((k : ℕ) → p k ≡ q k) → find p xs ≡ find q xs
found_same p q [] same = refl
found_same p q (x ∷ xs) same = rw (same x, found_same p q xs same) refl

next_same : (rows more : List ReachRow) (count : ℕ) (front : List ℕ) (m : ℕ) → AreSame rows more → is_next rows count front m ≡ is_next more count front m
unfolding is_next
next_same rows more count front m same =
    ap (λ (b : Bool). not (has_number front m) && b)
    (all_same (λ k. has_number front k || not (precedes rows k m)) (λ k. has_number front k || not (precedes more k m)) (range_with_len 0 count) (λ k. ap (λ (b : Bool). has_number front k || not b) (precedes_same rows more k m same)))

with_same : (found : Option ℕ) (front : List ℕ) (f g : ℕ → List ℕ) → ((m : ℕ) → f m ≡ g m) → with_next found front f ≡ with_next found front g
with_same None front f g same = refl
with_same (Some m) front f g same = same m

ordered_same : (rows more : List ReachRow) (count most : ℕ) (front : List ℕ) → AreSame rows more → ordered rows count most front ≡ ordered more count most front
unfolding ordered
ordered_same rows more count zero front same = refl
ordered_same rows more count (suc most) front same =
    ap (λ (found : Option ℕ). with_next found front (λ m. ordered rows count most (front ++ m ∷ []))) (found_same (is_next rows count front) (is_next more count front) (range_with_len 0 count) (λ m. next_same rows more count front m same))
    ∙ with_same (find (is_next more count front) (range_with_len 0 count)) front (λ m. ordered rows count most (front ++ m ∷ [])) (λ m. ordered more count most (front ++ m ∷ [])) (λ m. ordered_same rows more count most (front ++ m ∷ []) same)

pub rows_give_printed : RightRowsGivePrinted
rows_give_printed ws rows walk right =
    ordered_same rows (walk_rows ws) (length ws) (length ws) [] (are_same ws rows (walk_rows ws) (relation ws rows walk right) (relation ws (walk_rows ws) walk (found_right ws)))
