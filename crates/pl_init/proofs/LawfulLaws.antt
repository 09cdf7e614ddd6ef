-- The order of right rows: that there is always a next member, and what the whole order is.
use Rattle.std.proofs.Common.{◌≡◌, ℕ, zero, suc, ◌+◌, ◌<◌, ◌≤◌, Bool, true, false, ◌&&◌, ◌||◌, not, List, [], ◌∷◌, ◌++◌, length, Option, Some, refl, sym, ap, subst, ◌∙◌, arith, inl, inr, append_assoc, eqb}
use Rattle.std.specs.Prelude.{◌⊎◌, ◌≢◌, ◌==◌, nat_lt, find}
use Rattle.std.specs.List.{range_with_len, IsDistinct}
use Rattle.std.proofs.lemmas.Bool.{cases_Bool, false≢true, and_parts, and_from, or_cases, or_parts, or_left, or_right, eqb-true, eq-eqb, not-true, not-false, not_from_false, lt-ltb, ltb-true}
use Rattle.std.proofs.lemmas.List.{append-nil, length-append}
use Rattle.std.proofs.lemmas.List.Folds.{list_any-append}
use Rattle.std.proofs.lemmas.List.FromFn.{length-range_with_len}
use Rattle.pl_init.specs.declared.relation.ReachRow.{ReachRow}
use Rattle.pl_init.specs.Graph.{has_number}
use Rattle.pl_init.specs.Right.{reaches}
use Rattle.pl_init.specs.Lawful.{precedes, is_ready, is_next, are_next, is_lawful, with_next, ordered}
use Rattle.pl_init.proofs.ListLaws.{all_has, all_missed, all_from, range_has, range_within, range_distinct, distinct_cons, distinct_nil, no_longer, all_there, one_left, tally, count_lt, find_some, IsFirst, found_first}
use Rattle.pl_init.proofs.ChainLaws.{Chain, joined}
use Rattle.pl_init.proofs.RightLaws.{IsRight, right_reached, right_complete}

-- ---- which member comes before which

pub record IsBefore (rows : List ReachRow) (x y : ℕ) : Type 0 where
  pub back : reaches rows y x ≡ true
  pub choice : (reaches rows x y ≡ false) ⊎ (x < y)

pub before_is : (rows : List ReachRow) (x y : ℕ) → precedes rows x y ≡ true → IsBefore rows x y
unfolding precedes
before_is rows x y h =
    let a = and_parts (reaches rows y x) (not (reaches rows x y) || nat_lt x y) h in
    record { back = a.0; choice = elim (or_cases (not (reaches rows x y)) (nat_lt x y) a.1) [ inl n ↦ inl (not-true (reaches rows x y) n) | inr lt ↦ inr (ltb-true x y lt) ] }

pub before_back : (rows : List ReachRow) (x y : ℕ) → IsBefore rows x y → precedes rows x y ≡ true
unfolding precedes
before_back rows x y b =
    and_from (reaches rows y x) (not (reaches rows x y) || nat_lt x y) b.back (elim b.choice [ inl n ↦ or_left (not (reaches rows x y)) (nat_lt x y) (not_from_false (reaches rows x y) n) | inr lt ↦ or_right (not (reaches rows x y)) (nat_lt x y) (lt-ltb x y lt) ])

pub record IsOrderly (rows : List ReachRow) (count : ℕ) : Type 0 where
  pub other : (x : ℕ) → precedes rows x x ≡ false
  pub goes_on : (x y z : ℕ) → precedes rows x y ≡ true → precedes rows y z ≡ true → precedes rows x z ≡ true

not_both : (b : Bool) → b ≡ false → b ≡ true → ⊥
not_both b f t = false≢true (sym f ∙ t)

reached_chain : (graph : List (List ℕ)) (rows : List ReachRow) → IsRight graph rows → (i j : ℕ) → reaches rows i j ≡ true → Chain graph i j
reached_chain graph rows right i j h = (right_reached graph rows right i j h).0

-- by choice x is earlier, where each reaches the other
earlier : (rows : List ReachRow) (x y : ℕ) → IsBefore rows x y → reaches rows x y ≡ true → x < y
earlier rows x y b t = elim b.choice [ inl f ↦ absurd (not_both (reaches rows x y) f t) | inr lt ↦ lt ]

goes_on : (graph : List (List ℕ)) (rows : List ReachRow) → IsRight graph rows → (x y z : ℕ) → IsBefore rows x y → IsBefore rows y z → IsBefore rows x z
goes_on graph rows right x y z a b =
    let yx : Chain graph y x = reached_chain graph rows right y x a.back in
    let zy : Chain graph z y = reached_chain graph rows right z y b.back in
    let xy_other : x ≢ y = (right_reached graph rows right y x a.back).1 in
    let yz_other : y ≢ z = (right_reached graph rows right z y b.back).1 in
    let zx : Chain graph z x = joined graph z y x zy yx in
    let apart : x ≢ z = λ same.
    let xy : reaches rows x y ≡ true = subst (λ (k : ℕ). reaches rows k y ≡ true) (sym same) b.back in
    let yz : reaches rows y z ≡ true = subst (λ (k : ℕ). reaches rows y k ≡ true) same a.back in
    let first : x < y = earlier rows x y a xy in
    let second : y < z = earlier rows y z b yz in
    clash first second same in
    record {
      back = right_complete graph rows right z x zx apart;
      choice = elim (cases_Bool (reaches rows x z)) [
        | inl t ↦
            let xz : Chain graph x z = reached_chain graph rows right x z t in
            let xy : reaches rows x y ≡ true = right_complete graph rows right x y (joined graph x z y xz zy) (λ e. xy_other (sym e)) in
            let yz : reaches rows y z ≡ true = right_complete graph rows right y z (joined graph y x z yx xz) (λ e. yz_other (sym e)) in
            let first : x < y = earlier rows x y a xy in
            let second : y < z = earlier rows y z b yz in
            inr (omega arith)
        | inr f ↦ inl f
      ];
    }
  where
    clash : {x y z : ℕ} → x < y → y < z → x ≡ z → ⊥
    clash a b e = omega arith

pub orderly : (graph : List (List ℕ)) (rows : List ReachRow) → IsRight graph rows → IsOrderly rows (length graph)
orderly graph rows right = record {
  other = λ x. elim (cases_Bool (precedes rows x x)) [ inl t ↦ absurd ((right_reached graph rows right x x (before_is rows x x t).back).1 refl) | inr f ↦ f ];
  goes_on = λ x y z a b. before_back rows x z (goes_on graph rows right x y z (before_is rows x y a) (before_is rows y z b));
}

-- ---- there is always a next member

-- one that does not stand, before which nothing that does not stand has to come
pub record HasNext (rows : List ReachRow) (count : ℕ) (front : List ℕ) : Type 0 where
  pub member : ℕ
  pub small : member < count
  pub next : is_next rows count front member ≡ true

is_next_from : (rows : List ReachRow) (count : ℕ) (front : List ℕ) (m : ℕ) → has_number front m ≡ false → is_ready rows count front m ≡ true → is_next rows count front m ≡ true
unfolding is_next
is_next_from rows count front m off ready = and_from (not (has_number front m)) (is_ready rows count front m) (not_from_false (has_number front m) off) ready

descend : (rows : List ReachRow) (count : ℕ) (front : List ℕ) → IsOrderly rows count → (most m : ℕ) → m < count → has_number front m ≡ false → tally (λ k. precedes rows k m) (range_with_len 0 count) < most → HasNext rows count front
descend rows count front o zero m small off few = absurd (omega (arith, few))
descend rows count front o (suc most) m small off few =
    elim (cases_Bool (is_ready rows count front m)) [
      | inl ready ↦ record { member = m; small = small; next = is_next_from rows count front m off ready }
      | inr unready ↦
          let miss : (k : ℕ) × (has_number (range_with_len 0 count) k ≡ true) × ((has_number front k || not (precedes rows k m)) ≡ false) =
          all_missed (λ k. has_number front k || not (precedes rows k m)) (range_with_len 0 count) unready in
          let parts = or_parts (has_number front miss.0) (not (precedes rows miss.0 m)) miss.2 in
          let before : precedes rows miss.0 m ≡ true = not-false (precedes rows miss.0 m) parts.1 in
          let w : (0 ≤ miss.0) × (miss.0 < 0 + count) = range_within count 0 miss.0 miss.1 in
          let fewer : tally (λ k. precedes rows k miss.0) (range_with_len 0 count) < tally (λ k. precedes rows k m) (range_with_len 0 count) =
          count_lt (λ k. precedes rows k miss.0) (λ k. precedes rows k m) (range_with_len 0 count) miss.0 (λ k t. o.goes_on k miss.0 m t before) miss.1 (o.other miss.0) before in
          descend rows count front o most miss.0 (omega (arith, w.1)) parts.0 (omega (arith, fewer, few))
    ]

pub next_there : (rows : List ReachRow) (count : ℕ) (front : List ℕ) → IsOrderly rows count → length front < count → HasNext rows count front
next_there rows count front o few =
    let left : (m : ℕ) × (m < count) × (has_number front m ≡ false) = one_left front count few in
    descend rows count front o (suc (tally (λ k. precedes rows k left.0) (range_with_len 0 count))) left.0 left.1 left.2 (omega arith)

-- ---- the order

-- each in turn is the first that is next
pub AreFirst : List ReachRow → ℕ → List ℕ → List ℕ → Type 0
AreFirst rows count before [] = Unit {0}
AreFirst rows count before (m ∷ order) = (find (is_next rows count before) (range_with_len 0 count) ≡ Some m) × AreFirst rows count (before ++ m ∷ []) order

pub record IsOrdered (rows : List ReachRow) (count : ℕ) (front order : List ℕ) : Type 0 where
  pub more : List ℕ
  pub is : order ≡ front ++ more
  pub long : length order ≡ count
  pub first : AreFirst rows count front more

pub ordered_is : (rows : List ReachRow) (count most : ℕ) (front : List ℕ) → IsOrderly rows count → length front + most ≡ count → IsOrdered rows count front (ordered rows count most front)
unfolding ordered AreFirst
ordered_is rows count zero front o all = record { more = []; is = sym (append-nil front); long = omega (arith, all); first = tt }
ordered_is rows count (suc most) front o all =
    let next : HasNext rows count front = next_there rows count front o (omega (arith, all)) in
    let f : (m : ℕ) × (find (is_next rows count front) (range_with_len 0 count) ≡ Some m) = find_some (is_next rows count front) (range_with_len 0 count) next.member (range_has count 0 next.member (omega arith) (small next.small)) next.next in
    let i : IsOrdered rows count (front ++ f.0 ∷ []) (ordered rows count most (front ++ f.0 ∷ [])) = ordered_is rows count most (front ++ f.0 ∷ []) o (omega (arith, all, length-append front (f.0 ∷ []))) in
    let same : with_next (find (is_next rows count front) (range_with_len 0 count)) front (λ m. ordered rows count most (front ++ m ∷ [])) ≡ ordered rows count most (front ++ f.0 ∷ []) =
    ap (λ (x : Option ℕ). with_next x front (λ m. ordered rows count most (front ++ m ∷ []))) f.1 in
    record {
      more = f.0 ∷ i.more;
      is = same ∙ (i.is ∙ append_assoc front (f.0 ∷ []) i.more);
      long = ap (λ (z : List ℕ). length z) same ∙ i.long;
      first = (f.1, i.first);
    }
  where
    small : {m n : ℕ} → m < n → m < 0 + n
    small h = omega arith

first_next : (rows : List ReachRow) (count : ℕ) (order before : List ℕ) → AreFirst rows count before order → are_next rows count before order ≡ true
unfolding are_next AreFirst
first_next rows count [] before f = refl
first_next rows count (m ∷ order) before f =
    let i : IsFirst (is_next rows count before) 0 count m = found_first (is_next rows count before) count 0 m f.0 in
    and_from (nat_lt m count && is_next rows count before m) (are_next rows count (before ++ m ∷ []) order)
    (and_from (nat_lt m count) (is_next rows count before m) (lt-ltb m count (small i.high)) i.passes) (first_next rows count order (before ++ m ∷ []) f.1)
  where
    small : {m n : ℕ} → m < 0 + n → m < n
    small h = omega arith

-- ---- at one place of an order

pub record IsNext (rows : List ReachRow) (count : ℕ) (front : List ℕ) (m : ℕ) : Type 0 where
  pub small : m < count
  pub new : has_number front m ≡ false
  pub ready : is_ready rows count front m ≡ true

next_is : (rows : List ReachRow) (count : ℕ) (front : List ℕ) (m : ℕ) → (nat_lt m count && is_next rows count front m) ≡ true → IsNext rows count front m
unfolding is_next
next_is rows count front m h =
    let a = and_parts (nat_lt m count) (not (has_number front m) && is_ready rows count front m) h in
    let b = and_parts (not (has_number front m)) (is_ready rows count front m) a.1 in
    record { small = ltb-true m count a.0; new = not-true (has_number front m) b.0; ready = b.1 }

next_cons : (rows : List ReachRow) (count : ℕ) (before order : List ℕ) (m : ℕ) → are_next rows count before (m ∷ order) ≡ true → (IsNext rows count before m) × (are_next rows count (before ++ m ∷ []) order ≡ true)
unfolding are_next
next_cons rows count before order m h =
    let a = and_parts (nat_lt m count && is_next rows count before m) (are_next rows count (before ++ m ∷ []) order) h in
    (next_is rows count before m a.0, a.1)

pub next_at : (rows : List ReachRow) (count : ℕ) (front back before : List ℕ) (m : ℕ) → are_next rows count before (front ++ m ∷ back) ≡ true → IsNext rows count (before ++ front) m
next_at rows count [] back before m h = subst (λ (z : List ℕ). IsNext rows count z m) (sym (append-nil before)) (next_cons rows count before back m h).0
next_at rows count (k ∷ front) back before m h = subst (λ (z : List ℕ). IsNext rows count z m) (append_assoc before (k ∷ []) front) (next_at rows count front back (before ++ k ∷ []) m (next_cons rows count before (front ++ m ∷ back) k h).1)

pub first_at : (rows : List ReachRow) (count : ℕ) (front back before : List ℕ) (m : ℕ) → AreFirst rows count before (front ++ m ∷ back) → IsFirst (is_next rows count (before ++ front)) 0 count m
unfolding AreFirst
first_at rows count [] back before m h = subst (λ (z : List ℕ). IsFirst (is_next rows count z) 0 count m) (sym (append-nil before)) (found_first (is_next rows count before) count 0 m h.0)
first_at rows count (k ∷ front) back before m h = subst (λ (z : List ℕ). IsFirst (is_next rows count z) 0 count m) (append_assoc before (k ∷ []) front) (first_at rows count front back (before ++ k ∷ []) m h.1)

has_push : (xs : List ℕ) (m k : ℕ) → has_number (xs ++ m ∷ []) k ≡ (has_number xs k || (m == k || false))
has_push xs m k = list_any-append (λ (x : ℕ). x == k) xs (m ∷ [])

next_distinct : (rows : List ReachRow) (count : ℕ) (order before : List ℕ) → are_next rows count before order ≡ true → (IsDistinct eqb order) × ((k : ℕ) → has_number order k ≡ true → (k < count) × (has_number before k ≡ false))
next_distinct rows count [] before h = (distinct_nil, λ k t. absurd (false≢true t))
next_distinct rows count (m ∷ order) before h =
    let n = next_cons rows count before order m h in
    let i : (IsDistinct eqb order) × ((k : ℕ) → has_number order k ≡ true → (k < count) × (has_number (before ++ m ∷ []) k ≡ false)) = next_distinct rows count order (before ++ m ∷ []) n.1 in (
      distinct_cons m order (later m order before (λ k t. (i.1 k t).1)) i.0,
      λ k t. elim (or_cases (m == k) (has_number order k) t) [
        | inl e ↦ subst (λ (z : ℕ). (z < count) × (has_number before z ≡ false)) (eqb-true m k e) (n.0.small, n.0.new)
        | inr more ↦ ((i.1 k more).0, (or_parts (has_number before k) (m == k || false) (sym (has_push before m k) ∙ (i.1 k more).1)).0)
      ],
    )
  where
    later : (m : ℕ) (order before : List ℕ) → ((k : ℕ) → has_number order k ≡ true → has_number (before ++ m ∷ []) k ≡ false) → has_number order m ≡ false
    later m order before apart = elim (cases_Bool (has_number order m)) [
      | inl t ↦ absurd (false≢true (sym (apart m t) ∙ (has_push before m m ∙ or_right (has_number before m) (m == m || false) (or_left (m == m) false (eq-eqb m m refl)))))
      | inr f ↦ f
    ]

-- ---- lawful orders, by what is said of each place

pub record KeepsLaw (rows : List ReachRow) (count : ℕ) (order : List ℕ) : Type 0 where
  pub members : (m : ℕ) → has_number order m ≡ true → m < count
  pub all : (m : ℕ) → m < count → has_number order m ≡ true
  pub once : (front back : List ℕ) (m : ℕ) → order ≡ front ++ m ∷ back → has_number front m ≢ true
  pub behind : (front back : List ℕ) (m k : ℕ) → order ≡ front ++ m ∷ back → k < count → precedes rows k m ≡ true → has_number front k ≡ true

pub law_from : (rows : List ReachRow) (count : ℕ) (order : List ℕ) → length order ≡ count → are_next rows count [] order ≡ true → KeepsLaw rows count order
law_from rows count order long next =
    let d : (IsDistinct eqb order) × ((k : ℕ) → has_number order k ≡ true → (k < count) × (has_number [] k ≡ false)) = next_distinct rows count order [] next in
    let at : (front back : List ℕ) (m : ℕ) → order ≡ front ++ m ∷ back → IsNext rows count front m =
    λ front back m is. next_at rows count front back [] m (subst (λ (z : List ℕ). are_next rows count [] z ≡ true) is next) in
    record {
      members = λ m t. (d.1 m t).0;
      all = all_there order count d.0 (λ k t. (d.1 k t).0) long;
      once = λ front back m is t. false≢true (sym (at front back m is).new ∙ t);
      behind = λ front back m k is small before.
          elim (or_cases (has_number front k) (not (precedes rows k m)) (all_has (λ j. has_number front j || not (precedes rows j m)) (range_with_len 0 count) k (at front back m is).ready (range_has count 0 k (omega arith) (below small)))) [
            | inl t ↦ t
            | inr n ↦ absurd (false≢true (sym (not-true (precedes rows k m) n) ∙ before))
          ];
    }
  where
    below : {m n : ℕ} → m < n → m < 0 + n
    below h = omega arith

next_from : (rows : List ReachRow) (count : ℕ) (whole : List ℕ) → KeepsLaw rows count whole → (order before : List ℕ) → whole ≡ before ++ order → are_next rows count before order ≡ true
unfolding are_next is_next
next_from rows count whole law [] before is = refl
next_from rows count whole law (m ∷ order) before is =
    let here : has_number whole m ≡ true = subst (λ (z : List ℕ). has_number z m ≡ true) (sym is) (list_any-append (λ (x : ℕ). x == m) before (m ∷ order) ∙ or_right (has_number before m) (has_number (m ∷ order) m) (or_left (m == m) (has_number order m) (eq-eqb m m refl))) in
    let new : has_number before m ≡ false = elim (cases_Bool (has_number before m)) [ inl t ↦ absurd (law.once before order m is t) | inr f ↦ f ] in
    let ready : is_ready rows count before m ≡ true = all_from (λ k. has_number before k || not (precedes rows k m)) (range_with_len 0 count) (λ k t.
    elim (cases_Bool (precedes rows k m)) [
      | inl p ↦ or_left (has_number before k) (not (precedes rows k m)) (law.behind before order m k is (below (range_within count 0 k t).1) p)
      | inr n ↦ or_right (has_number before k) (not (precedes rows k m)) (not_from_false (precedes rows k m) n)
    ]) in
    and_from (nat_lt m count && (not (has_number before m) && is_ready rows count before m)) (are_next rows count (before ++ m ∷ []) order)
    (and_from (nat_lt m count) (not (has_number before m) && is_ready rows count before m) (lt-ltb m count (law.members m here))
    (and_from (not (has_number before m)) (is_ready rows count before m) (not_from_false (has_number before m) new) ready))
    (next_from rows count whole law order (before ++ m ∷ []) (is ∙ sym (append_assoc before (m ∷ []) order)))
  where
    below : {k n : ℕ} → k < 0 + n → k < n
    below h = omega arith

pub law_back : (rows : List ReachRow) (count : ℕ) (order : List ℕ) → KeepsLaw rows count order → is_lawful rows count order ≡ true
law_back rows count order law =
    let next : are_next rows count [] order ≡ true = next_from rows count order law order [] refl in
    let d : (IsDistinct eqb order) × ((k : ℕ) → has_number order k ≡ true → (k < count) × (has_number [] k ≡ false)) = next_distinct rows count order [] next in
    let le : length order ≤ length (range_with_len 0 count) = no_longer order (range_with_len 0 count) d.0 (λ k t. range_has count 0 k (omega arith) (below (law.members k t))) in
    let ge : length (range_with_len 0 count) ≤ length order = no_longer (range_with_len 0 count) order (range_distinct count 0) (λ k t. law.all k (above (range_within count 0 k t).1)) in
    and_from (length order == count) (are_next rows count [] order) (eq-eqb (length order) count (omega (arith, le, ge, length-range_with_len 0 count))) next
  where
    below : {m n : ℕ} → m < n → m < 0 + n
    below h = omega arith

    above : {k n : ℕ} → k < 0 + n → k < n
    above h = omega arith

-- the printed order
pub record IsWhole (rows : List ReachRow) (count : ℕ) (order : List ℕ) : Type 0 where
  pub law : KeepsLaw rows count order
  pub first : AreFirst rows count [] order

pub ordered_whole : (rows : List ReachRow) (count : ℕ) → IsOrderly rows count → IsWhole rows count (ordered rows count count [])
ordered_whole rows count o =
    let i : IsOrdered rows count [] (ordered rows count count []) = ordered_is rows count count [] o (omega arith) in
    let first : AreFirst rows count [] (ordered rows count count []) = subst (λ (z : List ℕ). AreFirst rows count [] z) (sym i.is) i.first in
    record { law = law_from rows count (ordered rows count count []) i.long (first_next rows count (ordered rows count count []) [] first); first = first }
