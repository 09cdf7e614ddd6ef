-- What is known of a walk by its names, and by the numbers of its graph, is the same.
use Rattle.std.proofs.Common.{◌≡◌, ◌≢◌, ℕ, zero, suc, ◌+◌, ◌<◌, ◌≤◌, Bool, true, false, not, cond, List, [], ◌∷◌, ◌++◌, length, get_or, map, Option, Some, None, refl, sym, ap, subst, ◌∙◌, arith, inl, inr}
use Rattle.std.specs.Prelude.{◌⊎◌, ◌==◌, ◌||◌, position, slice_get}
use Rattle.std.specs.List.{list_all, filter_map, cons_option, IsDistinct, range_with_len, position_or_len}
use Rattle.std.specs.Str.{bytes_eq}
use Rattle.std.proofs.lemmas.Bool.{cases_Bool, cases_lt, false≢true, or_cases, or_left, or_right, and_parts, and_from, eq-eqb, eqb-true, not-true, not_from_false, lt-ltb}
use Rattle.std.proofs.lemmas.List.{length-map, get_or_past}
use Rattle.std.proofs.lemmas.List.Quantifiers.{position-Some}
use Rattle.std.proofs.lemmas.Map.Keys.{apart_from_distinct}
use Rattle.pl_object.specs.declared.object.Object.{Object}
use Rattle.pl_scope.specs.Walk.{Walked}
use Rattle.pl_scope.specs.Members.{names, has, IsWalk, IsClosed}
use Rattle.pl_scope.proofs.NameLaws.{same_name, eq_refl, has_head, has_tail, has_cons}
use Rattle.pl_scope.proofs.WalkedLaws.{walk_is_closed}
use Rattle.pl_scope.specs.declared.constants.TheConstants.{MAX_MEMBERS}
use Rattle.pl_init.specs.declared.relation.ReachRow.{ReachRow}
use Rattle.pl_init.specs.Graph.{number, graph, needs, has_number}
use Rattle.pl_init.specs.Leads.{Needs, Leads, One, More, Reaches, Precedes}
use Rattle.pl_init.specs.Found.{all_reached}
use Rattle.pl_init.specs.Right.{is_numbered, is_right, reaches, AreReaches}
use Rattle.pl_init.specs.Lawful.{IsLawful, IsReady, IsPrinted, precedes, is_ready, is_next, are_next, is_lawful, ordered}
use Rattle.pl_init.proofs.ListLaws.{all_from, range_has, all_has, IsFirst}
use Rattle.pl_init.proofs.ChainLaws.{Chain, Edge, Next}
use Rattle.pl_init.proofs.RightLaws.{IsRight, right_is, right_reached, right_complete}
use Rattle.pl_init.proofs.FoundLaws.{all_reached_right}
use Rattle.pl_init.proofs.LawfulLaws.{IsBefore, before_is, before_back, orderly, KeepsLaw, law_from, law_back, AreFirst, IsWhole, ordered_whole, first_at}
use Rattle.pl_init.proofs.NameLaws.{length_graph}

-- ---- places in a walk

none_some : {A : Type 0} (x : A) → None ≡ Some x → ⊥
none_some x h = cc

same_some : {A : Type 0} (x y : A) → Some x ≡ Some y → x ≡ y
same_some x y h = cc

get_is : {A : Type 0} (xs : List A) (i : ℕ) (d x : A) → slice_get xs i ≡ Some x → (i < length xs) × (get_or xs i d ≡ x)
get_is [] i d x at = absurd (none_some x at)
get_is (y ∷ ys) zero d x at = (omega arith, same_some y x at)
get_is (y ∷ ys) (suc i) d x at = let rest : (i < length ys) × (get_or ys i d ≡ x) = get_is ys i d x at in (omega (arith, rest.0), rest.1)

get_there : {A : Type 0} (xs : List A) (i : ℕ) (d : A) → i < length xs → slice_get xs i ≡ Some (get_or xs i d)
get_there [] i d lt = absurd (omega arith)
get_there (y ∷ ys) zero d lt = refl
get_there (y ∷ ys) (suc i) d lt = get_there ys i d (omega arith)

get_map : {A B : Type 0} (f : A → B) (xs : List A) (i : ℕ) (x : A) → slice_get xs i ≡ Some x → slice_get (map f xs) i ≡ Some (f x)
get_map f [] i x at = absurd (none_some x at)
get_map f (y ∷ ys) zero x at = ap (λ (z : _). Some (f z)) (same_some y x at)
get_map f (y ∷ ys) (suc i) x at = get_map f ys i x at

-- ---- the number of a name

number_at : (ns : List (List ℕ)) (i j : ℕ) (n : List ℕ) → IsDistinct bytes_eq ns → slice_get ns j ≡ Some n → number ns n ≡ Some i → i ≡ j
number_at ns i j n distinct at is =
    let found = position-Some (bytes_eq n) ns i [] is in
    let there = get_is ns j [] n at in
    elim (cases_lt i j) [
      | inl lt ↦ absurd (false≢true (sym (apart_from_distinct bytes_eq ns i j [] distinct lt there.0) ∙ (ap (bytes_eq (get_or ns i [])) there.1 ∙ (ap (λ (m : List ℕ). bytes_eq m n) (sym (same_name n (get_or ns i []) found.1)) ∙ eq_refl n))))
      | inr ge ↦ elim (cases_lt j i) [
        | inl lt ↦ absurd (false≢true (sym (found.2 j lt) ∙ (ap (bytes_eq n) there.1 ∙ eq_refl n)))
        | inr le ↦ omega arith
      ]
    ]

-- where something passes, a place is found
short : (p : List ℕ → Bool) (xs : List (List ℕ)) (k : ℕ) (x : List ℕ) → slice_get xs k ≡ Some x → p x ≡ true → position_or_len p xs < length xs
short p [] k x at hit = absurd (none_some x at)
short p (y ∷ ys) zero x at hit = let here : p y ≡ true = ap p (same_some y x at) ∙ hit in rw here (omega arith)
short p (y ∷ ys) (suc k) x at hit =
    let rest : position_or_len p ys < length ys = short p ys k x at hit in
    elim (cases_Bool (p y)) [ inl t ↦ rw t (omega arith) | inr f ↦ rw f (omega (arith, rest)) ]

some_none : (m : ℕ) → Some m ≡ None → ⊥
some_none m h = cc

missed : (p : List ℕ → Bool) (xs : List (List ℕ)) (k : ℕ) (x : List ℕ) → slice_get xs k ≡ Some x → p x ≡ true → position p xs ≡ None → ⊥
missed p xs k x at hit none = some_none (position_or_len p xs) (sym (ap (λ (b : Bool). cond b (Some (position_or_len p xs)) None) (lt-ltb (position_or_len p xs) (length xs) (short p xs k x at hit))) ∙ none)

number_found : (ns : List (List ℕ)) (j : ℕ) (n : List ℕ) → IsDistinct bytes_eq ns → slice_get ns j ≡ Some n → number ns n ≡ Some j
number_found ns j n distinct at = of_number (number ns n) refl
  where
    of_number : (o : Option ℕ) → number ns n ≡ o → number ns n ≡ Some j
    of_number (Some i) e = e ∙ ap (λ (k : ℕ). Some k) (number_at ns i j n distinct at e)
    of_number None e = absurd (missed (bytes_eq n) ns j n at (eq_refl n) e)

-- ---- edges

has_cons_option : (o : Option ℕ) (ks : List ℕ) (j : ℕ) → has_number (cons_option o ks) j ≡ true → (o ≡ Some j) ⊎ (has_number ks j ≡ true)
has_cons_option None ks j t = inr t
has_cons_option (Some k) ks j t = elim (or_cases (k == j) (has_number ks j) t) [ inl e ↦ inl (ap (λ (z : ℕ). Some z) (eqb-true k j e)) | inr more ↦ inr more ]

numbers_back : (ns needed : List (List ℕ)) (j : ℕ) → has_number (filter_map (number ns) needed) j ≡ true → (n : List ℕ) × (has needed n ≡ true) × (number ns n ≡ Some j)
numbers_back ns [] j t = absurd (false≢true t)
numbers_back ns (n ∷ needed) j t =
    elim (has_cons_option (number ns n) (filter_map (number ns) needed) j t) [
      | inl e ↦ (n, has_head n needed, e)
      | inr more ↦ let rest : (m : List ℕ) × (has needed m ≡ true) × (number ns m ≡ Some j) = numbers_back ns needed j more in (rest.0, has_tail n rest.0 needed rest.1, rest.2)
    ]

numbers_there : (ns needed : List (List ℕ)) (j : ℕ) (n : List ℕ) → has needed n ≡ true → number ns n ≡ Some j → has_number (filter_map (number ns) needed) j ≡ true
numbers_there ns [] j n t is = absurd (false≢true t)
numbers_there ns (m ∷ needed) j n t is =
    elim (has_cons m n needed t) [
      | inl e ↦ head (number ns m) (ap (number ns) e ∙ is)
      | inr more ↦ tail (number ns m) (numbers_there ns needed j n more is)
    ]
  where
    head : (o : Option ℕ) → o ≡ Some j → has_number (cons_option o (filter_map (number ns) needed)) j ≡ true
    head None h = absurd (none_some j h)
    head (Some k) h = or_left (k == j) (has_number (filter_map (number ns) needed) j) (eq-eqb k j (same_some k j h))

    tail : (o : Option ℕ) → has_number (filter_map (number ns) needed) j ≡ true → has_number (cons_option o (filter_map (number ns) needed)) j ≡ true
    tail None h = h
    tail (Some k) h = or_right (k == j) (has_number (filter_map (number ns) needed) j) h

needs_at : (ws : Walked) (i : ℕ) (p : List ℕ × Object) → slice_get ws i ≡ Some p → needs (graph ws) i ≡ filter_map (number (names ws)) p.1.needed
unfolding graph
needs_at ws i p at = (get_is (graph ws) i [] (filter_map (number (names ws)) p.1.needed) (get_map (λ (q : List ℕ × Object). filter_map (number (names ws)) q.1.needed) ws i p at)).1

needs_edge : (ws : Walked) (i j : ℕ) → IsClosed ws → Needs ws i j → has_number (needs (graph ws) i) j ≡ true
needs_edge ws i j closed n =
    ap (λ (z : List ℕ). has_number z j) (needs_at ws i n.needing n.from)
    ∙ numbers_there (names ws) n.needing.1.needed j n.needed.0 n.name (number_found (names ws) j n.needed.0 closed.distinct (get_map (λ (q : List ℕ × Object). q.0) ws j n.needed n.to))

pub edge_needs : (ws : Walked) (i j : ℕ) → has_number (needs (graph ws) i) j ≡ true → Needs ws i j
edge_needs ws i j t = elim (cases_lt i (length ws)) [
  | inl lt ↦ from_pair lt
  | inr past ↦ absurd (false≢true (sym (ap (λ (z : List ℕ). has_number z j) (get_or_past (graph ws) i [] (rw (length_graph ws) past))) ∙ t))
]
  where
    at_pair : (p : List ℕ × Object) → slice_get ws i ≡ Some p → Needs ws i j
    at_pair p at =
        let back : (n : List ℕ) × (has p.1.needed n ≡ true) × (number (names ws) n ≡ Some j) = numbers_back (names ws) p.1.needed j (sym (ap (λ (z : List ℕ). has_number z j) (needs_at ws i p at)) ∙ t) in
        let found = position-Some (bytes_eq back.0) (names ws) j [] back.2 in
        let small : j < length ws = omega (arith, found.0, length-map ws (λ (q : List ℕ × Object). q.0)) in
        let q : List ℕ × Object = get_or ws j p in
        let to : slice_get ws j ≡ Some q = get_there ws j p small in
        let name : get_or (names ws) j [] ≡ q.0 = (get_is (names ws) j [] q.0 (get_map (λ (x : List ℕ × Object). x.0) ws j q to)).1 in
        record { needing = p; needed = q; from = at; to = to; name = subst (λ (m : List ℕ). has p.1.needed m ≡ true) (same_name back.0 (get_or (names ws) j []) found.1 ∙ name) back.1 }

    from_pair : i < length ws → Needs ws i j
    from_pair lt = pair_of ws i lt at_pair
      where
        pair_of : (xs : Walked) (k : ℕ) → k < length xs → ((p : List ℕ × Object) → slice_get xs k ≡ Some p → Needs ws i j) → Needs ws i j
        pair_of [] k small use' = absurd (omega arith)
        pair_of (p ∷ xs) zero small use' = use' p refl
        pair_of (p ∷ xs) (suc k) small use' = pair_of xs k (omega arith) use'

chain_of : (ws : Walked) (i j : ℕ) → IsClosed ws → Leads ws i j → Chain (graph ws) i j
chain_of ws i j closed (One _ n) = Edge j (needs_edge ws i j closed n)
chain_of ws i j closed (More k _ l n) = Next k j (chain_of ws i k closed l) (needs_edge ws k j closed n)

leads_of : (ws : Walked) (i j : ℕ) → Chain (graph ws) i j → Leads ws i j
leads_of ws i j (Edge _ e) = One j (edge_needs ws i j e)
leads_of ws i j (Next k _ c e) = More k j (leads_of ws i k c) (edge_needs ws k j e)

-- ---- the relation

pub relation : (ws : Walked) (rows : List ReachRow) → IsWalk ws → is_right (graph ws) rows ≡ true → AreReaches ws rows
relation ws rows walk right i j =
    let r : IsRight (graph ws) rows = right_is (graph ws) rows right in (
      λ t. let c : Chain (graph ws) i j × (j ≢ i) = right_reached (graph ws) rows r i j t in record { leads = leads_of ws i j c.0; other = c.1 },
      λ p. right_complete (graph ws) rows r i j (chain_of ws i j (walk_is_closed ws walk) p.leads) p.other,
    )

pub found_right : (ws : Walked) → is_right (graph ws) (all_reached (graph ws)) ≡ true
found_right ws = all_reached_right (graph ws) (λ i k t. let n : Needs ws i k = edge_needs ws i k t in rw (length_graph ws) (get_is ws k n.needed n.needed n.to).0)

-- ---- what comes before what

precedes_is : (ws : Walked) (rows : List ReachRow) → AreReaches ws rows → (x y : ℕ) → precedes rows x y ≡ true → Precedes ws x y
precedes_is ws rows are x y t =
    let b : IsBefore rows x y = before_is rows x y t in
    let back : Reaches ws y x = (are y x).0 b.back in
    elim (cases_Bool (reaches rows x y)) [
      | inl both ↦ inr (back, (are x y).0 both, earlier b both)
      | inr one ↦ inl (back, λ p. false≢true (sym one ∙ (are x y).1 p))
    ]
  where
    earlier : IsBefore rows x y → reaches rows x y ≡ true → x < y
    earlier b both = elim b.choice [ inl f ↦ absurd (false≢true (sym f ∙ both)) | inr lt ↦ lt ]

precedes_back : (ws : Walked) (rows : List ReachRow) → AreReaches ws rows → (x y : ℕ) → Precedes ws x y → precedes rows x y ≡ true
precedes_back ws rows are x y p =
    before_back rows x y (elim p [
      | inl one ↦ record { back = (are y x).1 one.0; choice = inl (off (reaches rows x y) (λ t. one.1 ((are x y).0 t))) }
      | inr two ↦ record { back = (are y x).1 two.0; choice = inr two.2 }
    ])
  where
    off : (b : Bool) → (b ≡ true → ⊥) → b ≡ false
    off true h = absurd (h refl)
    off false h = refl

leads_within : (ws : Walked) (i j : ℕ) → Leads ws i j → j < length ws
leads_within ws i j (One _ n) = (get_is ws j n.needed n.needed n.to).0
leads_within ws i j (More k _ l n) = (get_is ws j n.needed n.needed n.to).0

precedes_within : (ws : Walked) (x y : ℕ) → Precedes ws x y → x < length ws
precedes_within ws x y p = elim p [ inl one ↦ leads_within ws y x one.0.leads | inr two ↦ leads_within ws y x two.0.leads ]

-- ---- lawful orders

lawful_is : (ws : Walked) (rows : List ReachRow) (order : List ℕ) → AreReaches ws rows → KeepsLaw rows (length ws) order → IsLawful ws order
lawful_is ws rows order are law = record {
  members = law.members;
  all = law.all;
  once = law.once;
  behind = λ front back m k is p. law.behind front back m k is (precedes_within ws k m p) (precedes_back ws rows are k m p);
}

lawful_back : (ws : Walked) (rows : List ReachRow) (order : List ℕ) → AreReaches ws rows → IsLawful ws order → KeepsLaw rows (length ws) order
lawful_back ws rows order are law = record {
  members = law.members;
  all = law.all;
  once = law.once;
  behind = λ front back m k is small t. law.behind front back m k is (precedes_is ws rows are k m t);
}

pub lawful_answer : (ws : Walked) (rows : List ReachRow) (order : List ℕ) (answer : Bool) → IsWalk ws → is_right (graph ws) rows ≡ true → answer ≡ is_lawful rows (length ws) order → (answer ≡ true → IsLawful ws order) × (IsLawful ws order → answer ≡ true)
lawful_answer ws rows order answer walk right is =
    let are : AreReaches ws rows = relation ws rows walk right in (
      λ t. let parts = and_parts (length order == length ws) (are_next rows (length ws) [] order) (sym is ∙ t) in
          lawful_is ws rows order are (law_from rows (length ws) order (eqb-true (length order) (length ws) parts.0) parts.1),
      λ law. is ∙ law_back rows (length ws) order (lawful_back ws rows order are law),
    )

ready_is : (ws : Walked) (rows : List ReachRow) (front : List ℕ) (m : ℕ) → AreReaches ws rows → is_ready rows (length ws) front m ≡ true → IsReady ws front m
ready_is ws rows front m are ready k p =
    elim (or_cases (has_number front k) (not (precedes rows k m)) (all_has (λ j. has_number front j || not (precedes rows j m)) (range_with_len 0 (length ws)) k ready (range_has (length ws) 0 k (omega arith) (below (precedes_within ws k m p))))) [
      | inl t ↦ t
      | inr n ↦ absurd (false≢true (sym (not-true (precedes rows k m) n) ∙ precedes_back ws rows are k m p))
    ]
  where
    below : {j n : ℕ} → j < n → j < 0 + n
    below h = omega arith

ready_back : (ws : Walked) (rows : List ReachRow) (front : List ℕ) (m : ℕ) → AreReaches ws rows → IsReady ws front m → is_ready rows (length ws) front m ≡ true
ready_back ws rows front m are ready = all_from (λ k. has_number front k || not (precedes rows k m)) (range_with_len 0 (length ws)) (λ k t.
    elim (cases_Bool (precedes rows k m)) [
      | inl p ↦ or_left (has_number front k) (not (precedes rows k m)) (ready k (precedes_is ws rows are k m p))
      | inr n ↦ or_right (has_number front k) (not (precedes rows k m)) (not_from_false (precedes rows k m) n)
    ])

next_parts : (rows : List ReachRow) (count : ℕ) (front : List ℕ) (m : ℕ) → is_next rows count front m ≡ true → is_ready rows count front m ≡ true
unfolding is_next
next_parts rows count front m h = (and_parts (not (has_number front m)) (is_ready rows count front m) h).1

next_made : (rows : List ReachRow) (count : ℕ) (front : List ℕ) (m : ℕ) → has_number front m ≢ true → is_ready rows count front m ≡ true → is_next rows count front m ≡ true
unfolding is_next
next_made rows count front m off ready = and_from (not (has_number front m)) (is_ready rows count front m) (turn (has_number front m) off) ready
  where
    turn : (b : Bool) → b ≢ true → not b ≡ true
    turn true h = absurd (h refl)
    turn false h = refl

pub record IsPrintedLawful (ws : Walked) (order : List ℕ) : Type 0 where
  pub printed : IsPrinted ws order
  pub lawful : IsLawful ws order

pub order_is : (ws : Walked) (rows : List ReachRow) (order : List ℕ) → IsWalk ws → is_right (graph ws) rows ≡ true → order ≡ ordered rows (length ws) (length ws) [] → IsPrintedLawful ws order
order_is ws rows order walk right is =
    let are : AreReaches ws rows = relation ws rows walk right in
    let count : length (graph ws) ≡ length ws = length_graph ws in
    let whole : IsWhole rows (length ws) order = subst (λ (z : List ℕ). IsWhole rows (length ws) z) (sym is) (ordered_whole rows (length ws) (rw (← count) (orderly (graph ws) rows (right_is (graph ws) rows right)))) in
    let first : (front back : List ℕ) (m : ℕ) → order ≡ front ++ m ∷ back → IsFirst (is_next rows (length ws) front) 0 (length ws) m =
    λ front back m at. first_at rows (length ws) front back [] m (subst (λ (z : List ℕ). AreFirst rows (length ws) [] z) at whole.first) in
    record {
      printed = record {
        ready = λ front back m at. ready_is ws rows front m are (next_parts rows (length ws) front m (first front back m at).passes);
        earliest = λ front back m k at lt off ready. false≢true (sym ((first front back m at).first k (omega arith) lt) ∙ next_made rows (length ws) front k off (ready_back ws rows front k are ready));
      };
      lawful = lawful_is ws rows order are whole.law;
    }

-- ---- what a walk's table needs

pub walk_few : (ws : Walked) → IsWalk ws → length ws ≤ MAX_MEMBERS
walk_few ws walk = (walk_is_closed ws walk).few

pub rows_numbered : (ws : Walked) (rows : List ReachRow) → is_right (graph ws) rows ≡ true → list_all (is_numbered (length ws)) rows ≡ true
rows_numbered ws rows right = subst (λ (n : ℕ). list_all (is_numbered n) rows ≡ true) (length_graph ws) (right_is (graph ws) rows right).numbered
