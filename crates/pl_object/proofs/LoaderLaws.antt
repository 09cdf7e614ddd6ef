-- The PT_LOAD that loads a byte, of PT_LOADs that ascend in memory.
use Rattle.std.proofs.Common.{◌≡◌, ℕ, zero, suc, ◌+◌, ◌-◌, ◌<◌, ◌≤◌, Bool, true, false, cond, List, [], ◌∷◌, length, get_or, Some, None, refl, ◌∙◌, arith, inl, inr}
use Rattle.std.specs.Prelude.{nat_le, find}
use Rattle.std.specs.List.{list_any}
use Rattle.std.specs.List.Sorted.{IsPartitionedBy, IsPartitionPoint}
use Rattle.std.proofs.lemmas.Bool.{and_parts, or_parts, cases_Bool, cases_order, leb-true}
use Rattle.std.proofs.lemmas.Bool.Decides.{nat_tests}
use Rattle.pl_elf.specs.declared.segment.Segment.{Segment}
use Rattle.pl_elf.specs.Headers.{is_load, loads}
use Rattle.pl_elf.specs.Clauses.{AreLoads, ascend_from, bad_load}
use Rattle.pl_elf.proofs.AcceptedLaws.{load_fits}
use Rattle.pl_object.specs.FilePart.{loads_byte, loader}
use Rattle.pl_object.proofs.FilePartLaws.{loads_parts}

-- ---- rows of which one alone can pass a test

find_none : {X : Type 0} (p : X → Bool) (xs : List X) → ((k : ℕ) (d : X) → k < length xs → p (get_or xs k d) ≡ false) → find p xs ≡ None
find_none p [] misses = refl
find_none p (x ∷ xs) misses =
    let miss : p x ≡ false = misses 0 x (omega arith) in
    rw miss (find_none p xs (λ k d lt. misses (suc k) d (omega arith)))

find_lone : {X : Type 0} (p : X → Bool) (xs : List X) (i : ℕ) (e : X) → i < length xs
    → ((k : ℕ) (d : X) → k < i → p (get_or xs k d) ≡ false) → ((k : ℕ) (d : X) → i < k → k < length xs → p (get_or xs k d) ≡ false)
    → find p xs ≡ cond (p (get_or xs i e)) (Some (get_or xs i e)) None
find_lone p [] i e lt before after = absurd (omega arith)
find_lone p (x ∷ xs) zero e lt before after =
    let none = find_none p xs (λ k d within. after (suc k) d (omega arith) (omega arith)) in
    rw none refl
find_lone p (x ∷ xs) (suc i) e lt before after =
    let miss : p x ≡ false = before 0 x (omega arith) in
    rw miss (find_lone p xs i e (omega arith) (λ k d less. before (suc k) d (omega arith)) (λ k d more within. after (suc k) d (omega arith) (omega arith)))

-- ---- the PT_LOADs of a table by themselves

not_loaded : (address : ℕ) (s : Segment) → is_load s ≡ false → loads_byte address s ≡ false
unfolding loads_byte
not_loaded address s miss = rw miss refl

pub loader_loads : (ss : List Segment) (address : ℕ) → loader (loads ss) address ≡ loader ss address
loader_loads [] address = refl
loader_loads (s ∷ ss) address = elim (cases_Bool (is_load s)) [
  | inl hit ↦ rw hit (elim (cases_Bool (loads_byte address s)) [
    | inl byte ↦ rw byte refl
    | inr none ↦ rw none (loader_loads ss address)
  ])
  | inr miss ↦ rw (miss, not_loaded address s miss) (loader_loads ss address)
]

-- ---- PT_LOADs that ascend

starts_from : (from : ℕ) (ss : List Segment) (i : ℕ) (d : Segment) → ascend_from from ss ≡ true → i < length ss → from ≤ (get_or ss i d).vaddr
starts_from from [] i d h lt = absurd (omega arith)
starts_from from (s ∷ ss) zero d h lt = leb-true from s.vaddr (and_parts (nat_le from s.vaddr) (ascend_from (s.vaddr + s.memsz) ss) h).0
starts_from from (s ∷ ss) (suc i) d h lt =
    let parts = and_parts (nat_le from s.vaddr) (ascend_from (s.vaddr + s.memsz) ss) h in
    let low = leb-true from s.vaddr parts.0 in
    let next = starts_from (s.vaddr + s.memsz) ss i d parts.1 (omega arith) in
    omega (arith, low, next)

-- each begins at or after the end of every one before
ends_before : (from : ℕ) (ss : List Segment) (i j : ℕ) (d : Segment) → ascend_from from ss ≡ true → i < j → j < length ss → (get_or ss i d).vaddr + (get_or ss i d).memsz ≤ (get_or ss j d).vaddr
ends_before from [] i j d h lt within = absurd (omega arith)
ends_before from (s ∷ ss) i zero d h lt within = absurd (omega arith)
ends_before from (s ∷ ss) zero (suc j) d h lt within = starts_from (s.vaddr + s.memsz) ss j d (and_parts (nat_le from s.vaddr) (ascend_from (s.vaddr + s.memsz) ss) h).1 (omega arith)
ends_before from (s ∷ ss) (suc i) (suc j) d h lt within = ends_before (s.vaddr + s.memsz) ss i j d (and_parts (nat_le from s.vaddr) (ascend_from (s.vaddr + s.memsz) ss) h).1 (omega arith) (omega arith)

holds_bytes : (ss : List Segment) (i : ℕ) (d : Segment) → list_any bad_load ss ≡ false → i < length ss → (get_or ss i d).filesz ≤ (get_or ss i d).memsz
holds_bytes [] i d none lt = absurd (omega arith)
holds_bytes (s ∷ ss) zero d none lt = (load_fits s (or_parts (bad_load s) (list_any bad_load ss) none).0).bytes
holds_bytes (s ∷ ss) (suc i) d none lt = holds_bytes ss i d (or_parts (bad_load s) (list_any bad_load ss) none).1 (omega arith)

-- the PT_LOADs that begin at or before an address are the first ones
pub begun_first : (ss : List Segment) (a : ℕ) → AreLoads ss → IsPartitionedBy (λ s. nat_le s.vaddr a) ss
begun_first ss a are = λ i j d le within hit. elim (cases_order i j) [
  | inl same ↦ rw same hit
  | inr other ↦ elim other [
    | inl less ↦
        let before = ends_before 0 ss i j d are.ascend less within in
        grind (arith, nat_tests)
    | inr more ↦ absurd (omega (arith, le, more))
  ]
]

loads_below : (a : ℕ) (s : Segment) → a < s.vaddr → loads_byte a s ≡ false
loads_below a s lt = elim (cases_Bool (loads_byte a s)) [
  | inl hit ↦ let p = loads_parts a s hit in absurd (omega (arith, p.1, lt))
  | inr miss ↦ miss
]

loads_above : (a : ℕ) (s : Segment) → s.vaddr + s.filesz ≤ a → loads_byte a s ≡ false
loads_above a s le = elim (cases_Bool (loads_byte a s)) [
  | inl hit ↦ let p = loads_parts a s hit in absurd (omega (arith, p.2, le))
  | inr miss ↦ miss
]

module _ (ss : List Segment) (a i : ℕ) (are : AreLoads ss) (point : IsPartitionPoint (λ s. nat_le s.vaddr a ≡ true) (λ s. nat_le s.vaddr a ≡ false) ss i) where
  later_miss : (k : ℕ) (d : Segment) → i ≤ k → k < length ss → loads_byte a (get_or ss k d) ≡ false
  later_miss k d le within =
      let after = point.1 k d le within in
      loads_below a (get_or ss k d) (grind (arith, nat_tests))

  pub load_missed : i ≡ 0 → loader ss a ≡ None
  load_missed is = find_none (loads_byte a) ss (λ k d within. later_miss k d (omega arith) within)

  load_found : (e : Segment) → 0 < i → i ≤ length ss → loader ss a ≡ cond (loads_byte a (get_or ss (i - 1) e)) (Some (get_or ss (i - 1) e)) None
  load_found e some le = find_lone (loads_byte a) ss (i - 1) e (omega arith)
      (λ k d less.
      let before = ends_before 0 ss k (i - 1) d are.ascend less (omega arith) in
      let begun = leb-true (get_or ss (i - 1) d).vaddr a (point.0 (i - 1) d (omega arith) (omega arith)) in
      let bytes = holds_bytes ss k d are.fit (omega arith) in
      loads_above a (get_or ss k d) (omega (arith, before, begun, bytes)))
      (λ k d more within. later_miss k d (omega arith) within)

  pub load_hit : (e : Segment) → 0 < i → i ≤ length ss → loads_byte a (get_or ss (i - 1) e) ≡ true → loader ss a ≡ Some (get_or ss (i - 1) e)
  load_hit e some le hit = load_found e some le ∙ rw hit refl

  pub load_out : (e : Segment) → 0 < i → i ≤ length ss → loads_byte a (get_or ss (i - 1) e) ≡ false → loader ss a ≡ None
  load_out e some le miss = load_found e some le ∙ rw miss refl
