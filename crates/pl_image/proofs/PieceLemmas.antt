-- Pieces that ascend.
use Rattle.std.proofs.Common.{◌≡◌, ℕ, zero, suc, ◌+◌, ◌-◌, ◌*◌, ◌<◌, ◌≤◌, ◌^◌, ◌/◌, min, max, true, false, cond, List, [], ◌∷◌, length, get_or, take, drop, Some, None, refl, sym, ap, subst, ◌∙◌, arith, inl, inr}
use Rattle.std.specs.Prelude.{◌&&◌, nat_le, nat_lt, find}
use Rattle.std.specs.List.{list_any}
use Rattle.std.specs.List.Sorted.{IsNonDecreasingBy, IsPartitionedBy, IsPartitionPoint}
use Rattle.std.proofs.lemmas.Bool.{and_parts, or_parts, cases_Bool, cases_order, ltb-false, true≢false}
use Rattle.std.proofs.lemmas.Bool.Decides.{nat_tests}
use Rattle.std.proofs.Math.Bool.{or-true}
use Rattle.std.proofs.lemmas.List.{get_or_past, get_or_default, length-take, length-drop, get_or-take, get_or-drop, take-append-drop}
use Rattle.std.proofs.lemmas.List.Folds.{list_any-append, list_any_none}
use Rattle.pl_base.specs.Memory.{Piece, lies, byte_at, AtMostOne}
use Rattle.pl_elf.specs.declared.constants.TheConstants.{ADDRESS_LIMIT}
use Rattle.pl_image.specs.Image.{ascends, stored, stores, stores_in}
use Rattle.pl_base.proofs.FindLaws.{find_passes, find_fails}
use Rattle.pl_image.proofs.FindLemmas.{find_none, find_lone}

record Ascends (from : ℕ) (p : Piece) (ps : List Piece) : Type 0 where
  later : from ≤ p.start
  limit : p.start + p.size ≤ 2 ^ 47
  rest : ascends (p.start + p.size) ps ≡ true

ascends_parts : (from : ℕ) (p : Piece) (ps : List Piece) → ascends from (p ∷ ps) ≡ true → Ascends from p ps
unfolding ascends
ascends_parts from p ps h =
    let whole = and_parts (nat_le from p.start && nat_le (p.start + p.size) ADDRESS_LIMIT) (ascends (p.start + p.size) ps) h in
    let front = and_parts (nat_le from p.start) (nat_le (p.start + p.size) ADDRESS_LIMIT) whole.0 in
    record { later = grind (arith, nat_tests, front.0); limit = grind (arith, nat_tests, front.1); rest = whole.1 }

start_later : (from : ℕ) (ps : List Piece) (i : ℕ) (d : Piece) → ascends from ps ≡ true → i < length ps → from ≤ (get_or ps i d).start
start_later from [] i d h lt = absurd (omega arith)
start_later from (p ∷ ps) zero d h lt = (ascends_parts from p ps h).later
start_later from (p ∷ ps) (suc i) d h lt =
    let f = ascends_parts from p ps h in
    let later = f.later in
    let next = start_later (p.start + p.size) ps i d f.rest (omega arith) in
    omega arith

end_limit : (from : ℕ) (ps : List Piece) (i : ℕ) (d : Piece) → ascends from ps ≡ true → i < length ps → (get_or ps i d).start + (get_or ps i d).size ≤ 2 ^ 47
end_limit from [] i d h lt = absurd (omega arith)
end_limit from (p ∷ ps) zero d h lt = (ascends_parts from p ps h).limit
end_limit from (p ∷ ps) (suc i) d h lt = end_limit (p.start + p.size) ps i d (ascends_parts from p ps h).rest (omega arith)

pub piece_limit : (ps : List Piece) (i : ℕ) (p : Piece) → ascends 0 ps ≡ true → i < length ps → p ≡ get_or ps i p → p.start + p.size ≤ 2 ^ 47
piece_limit ps i p h lt is = subst (λ (q : Piece). q.start + q.size ≤ 2 ^ 47) (sym is) (end_limit 0 ps i p h lt)

-- each begins at or after the end of every one before
ends_before : (from : ℕ) (ps : List Piece) (i j : ℕ) (d : Piece) → ascends from ps ≡ true → i < j → j < length ps → (get_or ps i d).start + (get_or ps i d).size ≤ (get_or ps j d).start
ends_before from [] i j d h lt within = absurd (omega arith)
ends_before from (p ∷ ps) i zero d h lt within = absurd (omega arith)
ends_before from (p ∷ ps) zero (suc j) d h lt within = start_later (p.start + p.size) ps j d (ascends_parts from p ps h).rest (omega arith)
ends_before from (p ∷ ps) (suc i) (suc j) d h lt within = ends_before (p.start + p.size) ps i j d (ascends_parts from p ps h).rest (omega arith) (omega arith)

starts_rise : (ps : List Piece) → ascends 0 ps ≡ true → IsNonDecreasingBy (λ p. p.start) ps
starts_rise ps h = λ i j d le within. elim (cases_order i j) [
  | inl same ↦ rw same (omega arith)
  | inr other ↦ elim other [
    | inl less ↦ let before = ends_before 0 ps i j d h less within in omega arith
    | inr more ↦ absurd (omega arith)
  ]
]

-- no address before the first is in one of them
pub before_first : (ps : List Piece) (p : Piece) (a : ℕ) → ascends 0 ps ≡ true → p ≡ get_or ps 0 p → a < p.start → list_any (lies a) ps ≡ false
before_first [] p a h is less = refl
before_first (x ∷ xs) p a h is less =
    let first : a < x.start = subst (λ (q : Piece). a < q.start) is less in
    list_any_none (lies a) (x ∷ xs) (λ k d within.
    let rise = starts_rise (x ∷ xs) h 0 k d (omega arith) within in
    grind (arith, nat_tests))

-- no address is in two of them
pub ascend_apart : (ps : List Piece) → ascends 0 ps ≡ true → AtMostOne lies ps
ascend_apart ps h = λ i j a d less within hit.
    let before = ends_before 0 ps i j d h less within in
    grind (arith, nat_tests)

-- ---- the piece that has an address

-- the pieces that begin at or before an address are the first ones
pub begun_first : (ps : List Piece) (a : ℕ) → ascends 0 ps ≡ true → IsPartitionedBy (λ p. nat_le p.start a) ps
begun_first ps a h = λ i j d le within hit.
    let rise = starts_rise ps h i j d le within in
    grind (arith, nat_tests)

module _ (ps : List Piece) (a i : ℕ) (h : ascends 0 ps ≡ true) (point : IsPartitionPoint (λ p. nat_le p.start a ≡ true) (λ p. nat_le p.start a ≡ false) ps i) where
  later_miss : (k : ℕ) (d : Piece) → i ≤ k → k < length ps → lies a (get_or ps k d) ≡ false
  later_miss k d le within = let after = point.1 k d le within in grind (arith, nat_tests)

  pub piece_missed : i ≡ 0 → find (lies a) ps ≡ None
  piece_missed is = find_none (lies a) ps (λ k d within. later_miss k d (omega arith) within)

  piece_found : (e : Piece) → 0 < i → i ≤ length ps → find (lies a) ps ≡ cond (lies a (get_or ps (i - 1) e)) (Some (get_or ps (i - 1) e)) None
  piece_found e some le = find_lone (lies a) ps (i - 1) e (omega arith)
      (λ k d less.
      let before = ends_before 0 ps k (i - 1) d h less (omega arith) in
      let begun = point.0 (i - 1) d (omega arith) (omega arith) in
      grind (arith, nat_tests))
      (λ k d more within. later_miss k d (omega arith) within)

  pub piece_hit : (p : Piece) → 0 < i → i ≤ length ps → p ≡ get_or ps (i - 1) p → lies a p ≡ true → find (lies a) ps ≡ Some p
  piece_hit p some le is hit = piece_found p some le ∙ subst (λ (q : Piece). cond (lies a q) (Some q) None ≡ Some p) is (rw hit refl)

  pub piece_out : (p : Piece) → 0 < i → i ≤ length ps → p ≡ get_or ps (i - 1) p → lies a p ≡ false → find (lies a) ps ≡ None
  piece_out p some le is miss = piece_found p some le ∙ subst (λ (q : Piece). cond (lies a q) (Some q) None ≡ None) is (rw miss refl)

-- a piece that has an address is found also by another address that it has
pub same_piece : (from : ℕ) (ps : List Piece) (p : Piece) (a b : ℕ) → ascends from ps ≡ true → find (lies a) ps ≡ Some p → lies b p ≡ true → find (lies b) ps ≡ Some p
same_piece from [] p a b h found there = absurd (cc)
same_piece from (x ∷ xs) p a b h found there = elim (cases_Bool (lies a x)) [
  | inl hit ↦
      let is : Some x ≡ Some p = rw hit at found in
      let same : x ≡ p = cc in
      let here : lies b x ≡ true = ap (lies b) same ∙ there in
      rw here is
  | inr miss ↦
      let rest : find (lies a) xs ≡ Some p = rw miss at found in
      let f = ascends_parts from x xs h in
      let none : list_any (λ q. nat_lt q.start (x.start + x.size)) xs ≡ false = list_any_none (λ q. nat_lt q.start (x.start + x.size)) xs (λ k d within.
      let later = start_later (x.start + x.size) xs k d f.rest within in
      grind (arith, nat_tests)) in
      let past : nat_lt p.start (x.start + x.size) ≡ false = find_fails (lies a) (λ q. nat_lt q.start (x.start + x.size)) xs p rest none in
      let out : lies b x ≡ false = grind (arith, nat_tests) in
      rw out (same_piece (x.start + x.size) xs p a b f.rest rest there)
]

-- ---- bytes of files

-- the pieces whose bytes of a file end by an address are the first ones
pub ended_first : (ps : List Piece) (a : ℕ) → ascends 0 ps ≡ true → IsPartitionedBy (λ p. nat_le (p.start + stored p) a) ps
ended_first ps a h = λ i j d le within hit. elim (cases_order i j) [
  | inl same ↦ rw same hit
  | inr other ↦ elim other [
    | inl less ↦
        let before = ends_before 0 ps i j d h less within in
        let by : (get_or ps j d).start + min (length (get_or ps j d).bytes) (get_or ps j d).size ≤ a = grind (arith, nat_tests) in
        let end : (get_or ps i d).start + min (length (get_or ps i d).bytes) (get_or ps i d).size ≤ a = omega arith in
        grind (arith, nat_tests)
    | inr more ↦ absurd (omega arith)
  ]
]

module _ (ps : List Piece) (a i : ℕ) (h : ascends 0 ps ≡ true) (point : IsPartitionPoint (λ p. nat_le (p.start + stored p) a ≡ true) (λ p. nat_le (p.start + stored p) a ≡ false) ps i) where
  past_stored : (b k : ℕ) (d : Piece) → a ≤ b → k < i → stores b (get_or ps k d) ≡ false
  past_stored b k d le less = let by = point.0 k d (omega arith) less in grind (arith, nat_tests)

  -- from the address on the others alone can have a byte of a file
  pub others_store : (b : ℕ) → a ≤ b → list_any (stores b) (drop i ps) ≡ false → list_any (stores b) ps ≡ false
  others_store b le none =
      let front : list_any (stores b) (take i ps) ≡ false = list_any_none (stores b) (take i ps) (λ k d lt.
      let less : k < i = omega (arith, lt, length-take i ps) in
      rw (get_or-take i ps k d less) (past_stored b k d le less)) in
      ap (list_any (stores b)) (sym (take-append-drop i ps)) ∙ list_any-append (stores b) (take i ps) (drop i ps) ∙ rw (front, none) refl

  -- and these do not end by it
  others_last : list_any (λ p. nat_le (p.start + stored p) a) (drop i ps) ≡ false
  others_last = list_any_none (λ p. nat_le (p.start + stored p) a) (drop i ps) (λ k d lt.
      rw (get_or-drop i ps k d) (point.1 (i + k) d (omega arith) (omega (arith, lt, length-drop i ps))))

  pub found_stores : (p : Piece) (n : ℕ) → find (λ q. nat_lt 0 (stored q)) (drop i ps) ≡ Some p → 8 * n ≤ a → a ≤ 8 * n → list_any (stores_in (max n (p.start / 8))) ps ≡ true
  found_stores p n found low high =
      let some : nat_lt 0 (stored p) ≡ true = find_passes (λ q. nat_lt 0 (stored q)) (drop i ps) p found in
      let last : nat_le (p.start + stored p) a ≡ false = find_fails (λ q. nat_lt 0 (stored q)) (λ q. nat_le (q.start + stored q) a) (drop i ps) p found others_last in
      let here : stores_in (max n (p.start / 8)) p ≡ true = grind (arith, nat_tests) in
      elim (cases_Bool (list_any (stores_in (max n (p.start / 8))) (drop i ps))) [
        | inr none ↦ absurd (true≢false (sym here ∙ find_fails (λ q. nat_lt 0 (stored q)) (stores_in (max n (p.start / 8))) (drop i ps) p found none))
        | inl any ↦
            ap (list_any (stores_in (max n (p.start / 8)))) (sym (take-append-drop i ps))
            ∙ list_any-append (stores_in (max n (p.start / 8))) (take i ps) (drop i ps)
            ∙ rw any (or-true (list_any (stores_in (max n (p.start / 8))) (take i ps)))
      ]

-- ---- the first piece that has a byte of a file

unstored_by : (p : Piece) (b : ℕ) → nat_lt 0 (stored p) ≡ false → stores b p ≡ false
unstored_by p b empty = grind (arith, nat_tests)

-- where there is none, no byte of a file stands anywhere
pub none_stored : (ps : List Piece) (b : ℕ) → find (λ q. nat_lt 0 (stored q)) ps ≡ None → list_any (stores b) ps ≡ false
none_stored [] b none = refl
none_stored (p ∷ ps) b none = elim (cases_Bool (nat_lt 0 (stored p))) [
  | inl some ↦ absurd (let is : Some p ≡ None = rw some at none in cc)
  | inr empty ↦
      let rest : find (λ q. nat_lt 0 (stored q)) ps ≡ None = rw empty at none in
      rw (unstored_by p b empty) (none_stored ps b rest)
]

begun_later : (from : ℕ) (ps : List Piece) (b : ℕ) → ascends from ps ≡ true → b < from → list_any (stores b) ps ≡ false
begun_later from ps b h lt = list_any_none (stores b) ps (λ k d within.
    let later = start_later from ps k d h within in
    grind (arith, nat_tests))

-- before it there is none
pub none_stored_before : (from : ℕ) (ps : List Piece) (p : Piece) (b : ℕ) → ascends from ps ≡ true → find (λ q. nat_lt 0 (stored q)) ps ≡ Some p → b < p.start → list_any (stores b) ps ≡ false
none_stored_before from [] p b h found lt = refl
none_stored_before from (x ∷ xs) p b h found lt = elim (cases_Bool (nat_lt 0 (stored x))) [
  | inl some ↦
      let is : Some x ≡ Some p = rw some at found in
      let same : x ≡ p = cc in
      let below : b < x.start = rw same lt in
      let out : stores b x ≡ false = grind (arith, nat_tests) in
      rw out (begun_later (x.start + x.size) xs b (ascends_parts from x xs h).rest (omega arith))
  | inr empty ↦
      let rest : find (λ q. nat_lt 0 (stored q)) xs ≡ Some p = rw empty at found in
      rw (unstored_by x b empty) (none_stored_before (x.start + x.size) xs p b (ascends_parts from x xs h).rest rest lt)
]

pub found_limit : (from : ℕ) (ps : List Piece) (p : Piece) → ascends from ps ≡ true → find (λ q. nat_lt 0 (stored q)) ps ≡ Some p → p.start ≤ 2 ^ 47
found_limit from ps p h found =
    let none : list_any (λ q. nat_lt (2 ^ 47) q.start) ps ≡ false = list_any_none (λ q. nat_lt (2 ^ 47) q.start) ps (λ k d within.
    let limit = end_limit from ps k d h within in
    grind (arith, nat_tests)) in
    ltb-false _ _ (find_fails (λ q. nat_lt 0 (stored q)) (λ q. nat_lt (2 ^ 47) q.start) ps p found none)

pub ascends_drop : (from : ℕ) (ps : List Piece) (i : ℕ) → ascends from ps ≡ true → ascends 0 (drop i ps) ≡ true
unfolding ascends
ascends_drop from [] zero h = refl
ascends_drop from [] (suc i) h = refl
ascends_drop from (p ∷ ps) zero h =
    let f = ascends_parts from p ps h in
    let low : nat_le 0 p.start ≡ true = grind (arith, nat_tests) in
    let limit = f.limit in
    let high : nat_le (p.start + p.size) ADDRESS_LIMIT ≡ true = grind (arith, nat_tests) in
    rw (low, high, f.rest) refl
ascends_drop from (p ∷ ps) (suc i) h = ascends_drop (p.start + p.size) ps i (ascends_parts from p ps h).rest

-- an address of a piece at which no byte of a file stands has a 0
pub unstored : (ps : List Piece) (a : ℕ) (p : Piece) → list_any (stores a) ps ≡ false → find (lies a) ps ≡ Some p → byte_at a p ≡ 0
unstored [] a p none found = absurd cc
unstored (x ∷ xs) a p none found =
    let out = or_parts (stores a x) (list_any (stores a) xs) none in
    elim (cases_Bool (lies a x)) [
      | inr miss ↦ unstored xs a p out.1 (rw miss at found)
      | inl hit ↦
          let is : Some x ≡ Some p = rw hit at found in
          let same : x ≡ p = cc in
          let past : length x.bytes ≤ a - x.start = let empty = out.0 in grind (arith, nat_tests) in
          rw (← same) (get_or_past x.bytes (a - x.start) 0 past)
    ]

-- ---- the end of the last

pub past_last : (ps : List Piece) (e : Piece) (end a : ℕ) → ascends 0 ps ≡ true → 0 < length ps → (get_or ps (length ps - 1) e).start + (get_or ps (length ps - 1) e).size ≤ 8 * end → 8 * end ≤ a → list_any (lies a) ps ≡ false
past_last ps e end a h some last past = list_any_none (lies a) ps (λ k d within.
    let there = get_or_default ps k d e within in
    rw there (elim (cases_order k (length ps - 1)) [
      | inl same ↦ rw same (let out : lies a (get_or ps (length ps - 1) e) ≡ false = grind (arith, nat_tests) in out)
      | inr other ↦ elim other [
        | inl less ↦ let before = ends_before 0 ps k (length ps - 1) e h less (omega arith) in grind (arith, nat_tests)
        | inr more ↦ absurd (omega arith)
      ]
    ]))
