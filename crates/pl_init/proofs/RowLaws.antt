-- One row more of the rows of a member, and what is flagged then.
use Rattle.std.proofs.Common.{◌≡◌, ◌≢◌, ℕ, suc, ◌+◌, ◌<◌, ◌≤◌, Bool, true, false, ◌&&◌, ◌||◌, cond, List, [], ◌∷◌, ◌++◌, length, get_or, take, drop, refl, sym, ap, subst, ◌∙◌, arith}
use Rattle.std.specs.Prelude.{◌==◌, nat_lt, slice_index_or}
use Rattle.std.specs.List.{list_all}
use Rattle.std.proofs.lemmas.Bool.{and_parts, and_from, and_left, eq-eqb, ne_eqb, ltb-true}
use Rattle.std.proofs.lemmas.List.{append-nil, drop_more, drop_all}
use Rattle.std.proofs.lemmas.List.Elements.{filter_more}
use Rattle.std.proofs.lemmas.List.Sums.{AllPass-from_list_all}
use Rattle.pl_scope.specs.declared.constants.TheConstants.{MAX_MEMBERS}
use Rattle.pl_init.specs.declared.relation.ReachRow.{ReachRow}
use Rattle.pl_init.specs.Graph.{needs}
use Rattle.pl_init.specs.Found.{is_seen}
use Rattle.pl_init.specs.Right.{is_numbered, rows_of, is_step, are_steps, holds_needs, is_closed}
use Rattle.pl_init.specs.Flags.{AreFlags, IsGraph}
use Rattle.pl_init.proofs.FlagLaws.{seen_flagged}

-- what a read gives past the end
abbrev pub no_row : ReachRow
no_row = record { from = 0; to = 0; via = 0 }

abbrev pub row_at : List ReachRow → ℕ → ReachRow
row_at rows i = get_or rows i no_row

-- ---- the rows of a member so far, and those that are left

own_front : (rows : List ReachRow) (m i : ℕ) → i < length rows → (row_at rows i).from ≡ m → rows_of (take (i + 1) rows) m ≡ rows_of (take i rows) m ++ row_at rows i ∷ []
own_front rows m i lt is = filter_more (λ (r : ReachRow). r.from == m) rows i no_row lt ∙ ap (λ (b : Bool). rows_of (take i rows) m ++ cond b (row_at rows i ∷ []) []) (eq-eqb (row_at rows i).from m is)

other_front : (rows : List ReachRow) (m i : ℕ) → i < length rows → (row_at rows i).from ≢ m → rows_of (take (i + 1) rows) m ≡ rows_of (take i rows) m
other_front rows m i lt ne =
    filter_more (λ (r : ReachRow). r.from == m) rows i no_row lt ∙ (ap (λ (b : Bool). rows_of (take i rows) m ++ cond b (row_at rows i ∷ []) []) (ne_eqb (row_at rows i).from m ne) ∙ append-nil (rows_of (take i rows) m))

own_back : (rows : List ReachRow) (m i : ℕ) → i < length rows → (row_at rows i).from ≡ m → rows_of (drop i rows) m ≡ row_at rows i ∷ rows_of (drop (i + 1) rows) m
own_back rows m i lt is =
    ap (λ (z : List ReachRow). rows_of z m) (drop_more rows i no_row lt) ∙ ap (λ (b : Bool). cond b (row_at rows i ∷ rows_of (drop (i + 1) rows) m) (rows_of (drop (i + 1) rows) m)) (eq-eqb (row_at rows i).from m is)

other_back : (rows : List ReachRow) (m i : ℕ) → i < length rows → (row_at rows i).from ≢ m → rows_of (drop i rows) m ≡ rows_of (drop (i + 1) rows) m
other_back rows m i lt ne =
    ap (λ (z : List ReachRow). rows_of z m) (drop_more rows i no_row lt) ∙ ap (λ (b : Bool). cond b (row_at rows i ∷ rows_of (drop (i + 1) rows) m) (rows_of (drop (i + 1) rows) m)) (ne_eqb (row_at rows i).from m ne)

-- ---- steps

-- an answer tells of each list of rows before whether the row is a step
abbrev pub TellsStep : List (List ℕ) → List Bool → ReachRow → Bool → Type 0
TellsStep graph seen r answer = (before : List ReachRow) → AreFlags seen (is_seen r.from before) → answer ≡ is_step graph r.from before r

step_told : (graph : List (List ℕ)) (seen : List Bool) (m : ℕ) (before : List ReachRow) (r : ReachRow) (answer : Bool) → r.from ≡ m → AreFlags seen (is_seen m before) → TellsStep graph seen r answer → answer ≡ is_step graph m before r
step_told graph seen m before r answer is flags tells =
    tells before (subst (λ (z : ℕ). AreFlags seen (is_seen z before)) (sym is) flags) ∙ ap (λ (z : ℕ). is_step graph z before r) is

steps_head : (graph : List (List ℕ)) (m : ℕ) (before : List ReachRow) (r : ReachRow) (rows : List ReachRow) → are_steps graph m before (r ∷ rows) ≡ (is_step graph m before r && are_steps graph m (before ++ r ∷ []) rows)
unfolding are_steps
steps_head graph m before r rows = refl

pub steps_stop : (graph : List (List ℕ)) (m i : ℕ) (rows : List ReachRow) (seen : List Bool) (answer whole : Bool) → i < length rows → (row_at rows i).from ≡ m → TellsStep graph seen (row_at rows i) answer → AreFlags seen (is_seen m (rows_of (take i rows) m)) → answer ≡ false
    → are_steps graph m (rows_of (take i rows) m) (rows_of (drop i rows) m) ≡ whole → false ≡ whole
steps_stop graph m i rows seen answer whole lt is tells flags no' so_far =
    let before : List ReachRow = rows_of (take i rows) m in
    let step : is_step graph m before (row_at rows i) ≡ false = sym (step_told graph seen m before (row_at rows i) answer is flags tells) ∙ no' in
    sym (and_left (is_step graph m before (row_at rows i)) (are_steps graph m (before ++ row_at rows i ∷ []) (rows_of (drop (i + 1) rows) m)) step)
    ∙ (sym (steps_head graph m before (row_at rows i) (rows_of (drop (i + 1) rows) m)) ∙ (ap (are_steps graph m before) (sym (own_back rows m i lt is)) ∙ so_far))

pub steps_own : (graph : List (List ℕ)) (m i : ℕ) (rows : List ReachRow) (seen : List Bool) (answer whole : Bool) → i < length rows → (row_at rows i).from ≡ m → TellsStep graph seen (row_at rows i) answer → AreFlags seen (is_seen m (rows_of (take i rows) m)) → answer ≡ true
    → are_steps graph m (rows_of (take i rows) m) (rows_of (drop i rows) m) ≡ whole → are_steps graph m (rows_of (take (i + 1) rows) m) (rows_of (drop (i + 1) rows) m) ≡ whole
steps_own graph m i rows seen answer whole lt is tells flags yes' so_far =
    let before : List ReachRow = rows_of (take i rows) m in
    let rest : List ReachRow = rows_of (drop (i + 1) rows) m in
    let step : is_step graph m before (row_at rows i) ≡ true = sym (step_told graph seen m before (row_at rows i) answer is flags tells) ∙ yes' in
    ap (λ (z : List ReachRow). are_steps graph m z rest) (own_front rows m i lt is)
    ∙ (ap (λ (b : Bool). b && are_steps graph m (before ++ row_at rows i ∷ []) rest) (sym step)
    ∙ (sym (steps_head graph m before (row_at rows i) rest) ∙ (ap (are_steps graph m before) (sym (own_back rows m i lt is)) ∙ so_far)))

pub steps_other : (graph : List (List ℕ)) (m i : ℕ) (rows : List ReachRow) (whole : Bool) → i < length rows → (row_at rows i).from ≢ m
    → are_steps graph m (rows_of (take i rows) m) (rows_of (drop i rows) m) ≡ whole → are_steps graph m (rows_of (take (i + 1) rows) m) (rows_of (drop (i + 1) rows) m) ≡ whole
steps_other graph m i rows whole lt ne so_far =
    ap (λ (z : List ReachRow). are_steps graph m z (rows_of (drop (i + 1) rows) m)) (other_front rows m i lt ne) ∙ (ap (are_steps graph m (rows_of (take i rows) m)) (sym (other_back rows m i lt ne)) ∙ so_far)

pub steps_all : (graph : List (List ℕ)) (m i : ℕ) (rows : List ReachRow) (whole : Bool) → length rows ≤ i → are_steps graph m (rows_of (take i rows) m) (rows_of (drop i rows) m) ≡ whole → true ≡ whole
unfolding are_steps
steps_all graph m i rows whole past so_far = sym (ap (λ (z : List ReachRow). are_steps graph m (rows_of (take i rows) m) (rows_of z m)) (drop_all i rows past)) ∙ so_far

pub seen_own : (m i : ℕ) (rows : List ReachRow) (flags : List Bool) → i < length rows → (row_at rows i).from ≡ m → AreFlags flags (λ k. k == (row_at rows i).to || is_seen m (rows_of (take i rows) m) k) → AreFlags flags (is_seen m (rows_of (take (i + 1) rows) m))
seen_own m i rows flags lt is a = seen_flagged flags m (rows_of (take i rows) m) (rows_of (take (i + 1) rows) m) (row_at rows i) (own_front rows m i lt is) a

pub seen_other : (m i : ℕ) (rows : List ReachRow) (flags : List Bool) → i < length rows → (row_at rows i).from ≢ m → AreFlags flags (is_seen m (rows_of (take i rows) m)) → AreFlags flags (is_seen m (rows_of (take (i + 1) rows) m))
seen_other m i rows flags lt ne a = subst (λ (z : List ReachRow). AreFlags flags (is_seen m z)) (sym (other_front rows m i lt ne)) a

-- ---- needs that are flagged

agree : (p q : ℕ → Bool) (xs : List ℕ) → ((i : ℕ) → i < length xs → p (get_or xs i 0) ≡ q (get_or xs i 0)) → list_all p xs ≡ list_all q xs
agree p q [] same = refl
agree p q (x ∷ xs) same = let rest : list_all p xs ≡ list_all q xs = agree p q xs (λ i lt. same (suc i) (omega arith)) in rw (same 0 (omega arith), rest) refl

pub holds_told : (graph : List (List ℕ)) (m k : ℕ) (rows : List ReachRow) (seen : List Bool) → IsGraph graph → k < length graph → AreFlags seen (is_seen m rows) → list_all (λ j. slice_index_or seen j false) (needs graph k) ≡ holds_needs graph m rows k
holds_told graph m k rows seen g small flags =
    agree (λ j. slice_index_or seen j false) (is_seen m rows) (needs graph k) (λ i lt. flags.each (get_or (needs graph k) i 0) (below (g.numbers k [] small i 0 lt)))
  where
    below : {j : ℕ} → j < length graph → j < MAX_MEMBERS
    below lt = omega (arith, g.few)

pub record Numbered (count : ℕ) (r : ReachRow) : Type 0 where
  pub from : r.from < count
  pub to : r.to < count
  pub via : r.via < count

pub numbered_is : (count : ℕ) (r : ReachRow) → is_numbered count r ≡ true → Numbered count r
numbered_is count r h =
    let a = and_parts (nat_lt r.from count && nat_lt r.to count) (nat_lt r.via count) h in
    let b = and_parts (nat_lt r.from count) (nat_lt r.to count) a.0 in
    record { from = ltb-true r.from count b.0; to = ltb-true r.to count b.1; via = ltb-true r.via count a.1 }

pub numbered_at : (count i : ℕ) (rows : List ReachRow) → list_all (is_numbered count) rows ≡ true → i < length rows → Numbered count (row_at rows i)
numbered_at count i rows all lt = numbered_is count (row_at rows i) (pass_at rows i all lt)
  where
    pass_at : (rows : List ReachRow) (i : ℕ) → list_all (is_numbered count) rows ≡ true → i < length rows → is_numbered count (row_at rows i) ≡ true
    pass_at rows i all lt = AllPass-from_list_all (is_numbered count) rows all i no_row lt

pub closed_self : (graph : List (List ℕ)) (m : ℕ) (rows : List ReachRow) (seen : List Bool) (answer : Bool) → IsGraph graph → m < length graph → AreFlags seen (is_seen m rows) → answer ≡ list_all (λ j. slice_index_or seen j false) (needs graph m) → answer ≡ false → false ≡ is_closed graph m rows
unfolding is_closed
closed_self graph m rows seen answer g small flags tells no' =
    sym (and_left (holds_needs graph m rows m) (list_all (λ (r : ReachRow). holds_needs graph m rows r.to) rows) (sym (holds_told graph m m rows seen g small flags) ∙ (sym tells ∙ no')))

-- the rows of a member that are left hold what those need to which they lead
abbrev pub left_holds : List (List ℕ) → ℕ → List ReachRow → List ReachRow → Bool
left_holds graph m rows left = list_all (λ (r : ReachRow). holds_needs graph m rows r.to) left

pub closed_stop : (graph : List (List ℕ)) (m i : ℕ) (all : List ReachRow) (seen : List Bool) (first answer : Bool) → IsGraph graph → m < length graph → list_all (is_numbered (length graph)) all ≡ true → AreFlags seen (is_seen m (rows_of all m)) → i < length all → (row_at all i).from ≡ m
    → answer ≡ list_all (λ j. slice_index_or seen j false) (needs graph (row_at all i).to) → answer ≡ false
    → left_holds graph m (rows_of all m) (rows_of (drop i all) m) ≡ left_holds graph m (rows_of all m) (rows_of all m) → false ≡ is_closed graph m (rows_of all m)
unfolding is_closed
closed_stop graph m i all seen first answer g small numbered flags lt is tells no' so_far =
    let rows : List ReachRow = rows_of all m in
    let to : (row_at all i).to < length graph = (numbered_at (length graph) i all numbered lt).to in
    let miss : holds_needs graph m rows (row_at all i).to ≡ false = sym (holds_told graph m (row_at all i).to rows seen g to flags) ∙ (sym tells ∙ no') in
    let none : left_holds graph m rows (rows_of (drop i all) m) ≡ false = ap (left_holds graph m rows) (own_back all m i lt is) ∙ and_left (holds_needs graph m rows (row_at all i).to) (left_holds graph m rows (rows_of (drop (i + 1) all) m)) miss in
    sym (both (holds_needs graph m rows m) (left_holds graph m rows rows) (sym so_far ∙ none))
  where
    both : (a b : Bool) → b ≡ false → (a && b) ≡ false
    both true b h = h
    both false b h = refl

pub closed_own : (graph : List (List ℕ)) (m i : ℕ) (all : List ReachRow) (seen : List Bool) (answer : Bool) → IsGraph graph → list_all (is_numbered (length graph)) all ≡ true → AreFlags seen (is_seen m (rows_of all m)) → i < length all → (row_at all i).from ≡ m
    → answer ≡ list_all (λ j. slice_index_or seen j false) (needs graph (row_at all i).to) → answer ≡ true
    → left_holds graph m (rows_of all m) (rows_of (drop i all) m) ≡ left_holds graph m (rows_of all m) (rows_of all m) → left_holds graph m (rows_of all m) (rows_of (drop (i + 1) all) m) ≡ left_holds graph m (rows_of all m) (rows_of all m)
closed_own graph m i all seen answer g numbered flags lt is tells yes' so_far =
    let rows : List ReachRow = rows_of all m in
    let to : (row_at all i).to < length graph = (numbered_at (length graph) i all numbered lt).to in
    let hit : holds_needs graph m rows (row_at all i).to ≡ true = sym (holds_told graph m (row_at all i).to rows seen g to flags) ∙ (sym tells ∙ yes') in
    ap (λ (b : Bool). b && left_holds graph m rows (rows_of (drop (i + 1) all) m)) (sym hit) ∙ (ap (left_holds graph m rows) (sym (own_back all m i lt is)) ∙ so_far)

pub closed_other : (graph : List (List ℕ)) (m i : ℕ) (all : List ReachRow) → i < length all → (row_at all i).from ≢ m
    → left_holds graph m (rows_of all m) (rows_of (drop i all) m) ≡ left_holds graph m (rows_of all m) (rows_of all m) → left_holds graph m (rows_of all m) (rows_of (drop (i + 1) all) m) ≡ left_holds graph m (rows_of all m) (rows_of all m)
closed_other graph m i all lt ne so_far = ap (left_holds graph m (rows_of all m)) (sym (other_back all m i lt ne)) ∙ so_far

pub closed_all : (graph : List (List ℕ)) (m i : ℕ) (all : List ReachRow) (seen : List Bool) (answer : Bool) → IsGraph graph → m < length graph → AreFlags seen (is_seen m (rows_of all m)) → answer ≡ list_all (λ j. slice_index_or seen j false) (needs graph m) → answer ≡ true → length all ≤ i
    → left_holds graph m (rows_of all m) (rows_of (drop i all) m) ≡ left_holds graph m (rows_of all m) (rows_of all m) → true ≡ is_closed graph m (rows_of all m)
unfolding is_closed
closed_all graph m i all seen answer g small flags tells yes' past so_far =
    let rows : List ReachRow = rows_of all m in
    let none : left_holds graph m rows (rows_of (drop i all) m) ≡ true = ap (λ (z : List ReachRow). left_holds graph m rows (rows_of z m)) (drop_all i all past) in
    sym (and_from (holds_needs graph m rows m) (left_holds graph m rows rows) (sym (holds_told graph m m rows seen g small flags) ∙ (sym tells ∙ yes')) (sym so_far ∙ none))
