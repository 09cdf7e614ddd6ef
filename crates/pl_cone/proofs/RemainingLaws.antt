-- Numbers that rise, and a fact of each number between them.
use Rattle.std.proofs.Common.{◌≡◌, ℕ, zero, suc, ◌+◌, ◌<◌, ◌≤◌, List, [], ◌∷◌, length, drop, get_or, map, Option, Some, None, Result, Ok, Err, refl, sym, ap, ◌∙◌, arith}
use Rattle.std.specs.Prelude.{◌-◌, slice_get, slice_index_or}
use Rattle.std.proofs.lemmas.List.{get_or_default}
use Rattle.std.proofs.lemmas.Option.{slice_get-get_or, get_or_from_slice_get}
use Rattle.pl_base.specs.Answers.{◌>>=◌}
use Rattle.pl_base.specs.Each.{run}
use Rattle.pl_object.specs.declared.reloc.Reloc.{Reloc}
use Rattle.pl_value.specs.Meanings.{Row, row}
use Rattle.pl_value.specs.declared.fault.LinkFault.{LinkFault}
use Rattle.pl_value.specs.declared.meaning.Meaning.{Meaning}
use Rattle.pl_conflict.specs.Between.{HoldsBetween}
use Rattle.pl_cone.specs.Links.{done}
use Rattle.pl_cone.proofs.ValueLaws.{each_has, row_past, row_linked, row_stops, all_rows}

-- ---- the values of a member's relocations by those of some

-- the relocation of an index has a value, or its refusal
abbrev pub by_reloc : (Row → Result Meaning LinkFault) → ℕ → Option Reloc → Result (Unit {0}) LinkFault
by_reloc f member None = Ok tt
by_reloc f member (Some r) = done (f (row member r))

abbrev pub by_index : (Row → Result Meaning LinkFault) → ℕ → List Reloc → Unit {0} → ℕ → Result (Unit {0}) LinkFault
by_index f member rs u i = by_reloc f member (slice_get rs i)

abbrev pub HasOne : (Row → Result Meaning LinkFault) → ℕ → List Reloc → ℕ → Type 0
HasOne f member rs i = (d : Reloc) → (g : Meaning) × (f (row member (slice_index_or rs i d)) ≡ Ok g)

some_reloc : (rs : List Reloc) (i : ℕ) → i < length rs → Reloc
some_reloc [] i lt = absurd (omega (arith, lt))
some_reloc (r ∷ rs) i lt = r

module _ (f : Row → Result Meaning LinkFault) (member : ℕ) (rs : List Reloc) where
  -- those between two numbers have values, and are passed
  passed : (count from : ℕ) → from + count ≤ length rs → ((i : ℕ) → from ≤ i → i < from + count → HasOne f member rs i) → each_has f (drop from (map (row member) rs)) ≡ each_has f (drop (from + count) (map (row member) rs))
  passed zero from within have =
      let same : from ≡ from + 0 = omega arith in
      ap (λ (k : ℕ). each_has f (drop k (map (row member) rs))) same
  passed (suc count) from within have =
      let d : Reloc = some_reloc rs from (omega (arith, within)) in
      let v = have from (omega arith) (omega arith) d in
      let one : each_has f (drop from (map (row member) rs)) ≡ each_has f (drop (from + 1) (map (row member) rs)) =
      sym (row_past f member rs from d v.0 (each_has f (drop from (map (row member) rs))) (omega (arith, within)) v.1 refl) in
      let same : from + 1 + count ≡ from + suc count = omega arith in
      one ∙ (passed count (from + 1) (omega (arith, within)) (λ i low high. have i (omega (arith, low)) (omega (arith, high))) ∙ ap (λ (k : ℕ). each_has f (drop k (map (row member) rs))) same)

  passed_to : (from to : ℕ) → from ≤ to → to ≤ length rs → ((i : ℕ) → from ≤ i → i < to → HasOne f member rs i) → each_has f (drop from (map (row member) rs)) ≡ each_has f (drop to (map (row member) rs))
  passed_to from to le within have =
      let sum : from + (to - from) ≡ to = omega (arith, le) in
      passed (to - from) from (omega (arith, sum, within)) (λ i low high. have i low (omega (arith, sum, high))) ∙ ap (λ (k : ℕ). each_has f (drop k (map (row member) rs))) sum

  -- all that follow have values
  rest_pass : (from : ℕ) → from ≤ length rs → ((i : ℕ) → from ≤ i → i < length rs → HasOne f member rs i) → each_has f (drop from (map (row member) rs)) ≡ Ok tt
  rest_pass from le have = passed_to from (length rs) le (omega arith) have ∙ all_rows f member rs (length rs) (each_has f (drop (length rs) (map (row member) rs))) (omega arith) refl

  -- the relocation of a number, and those that follow it
  index_is : (n : ℕ) (r : Reloc) → slice_get rs n ≡ Some r → by_index f member rs tt n ≡ done (f (row member (get_or rs n r)))
  index_is n r at = ap (by_reloc f member) at ∙ ap (λ (q : Reloc). done (f (row member q))) (sym (get_or_from_slice_get rs n r r at))

  at_number : (n : ℕ) (rest : Result (Unit {0}) LinkFault) (r : Reloc) → n < length rs → slice_get rs n ≡ Some r → rest ≡ each_has f (drop (n + 1) (map (row member) rs)) → (x : Result (Unit {0}) LinkFault) → done (f (row member (get_or rs n r))) ≡ x
      → (x >>= λ u. rest) ≡ each_has f (drop n (map (row member) rs))
  at_number n rest r lt at follow (Ok u) is = follow ∙ row_linked f member rs n r (each_has f (drop n (map (row member) rs))) lt is refl
  at_number n rest r lt at follow (Err fault) is = sym (row_stops f member rs n r fault (each_has f (drop n (map (row member) rs))) lt is refl)

  by_number : (n : ℕ) (ns : List ℕ) → n < length rs → run (by_index f member rs) tt ns ≡ each_has f (drop (n + 1) (map (row member) rs)) → run (by_index f member rs) tt (n ∷ ns) ≡ each_has f (drop n (map (row member) rs))
  unfolding run
  by_number n ns lt follow =
      let r : Reloc = some_reloc rs n lt in
      let at : slice_get rs n ≡ Some (get_or rs n r) = slice_get-get_or rs n r lt in
      let one : get_or rs n (get_or rs n r) ≡ get_or rs n r = get_or_default rs n (get_or rs n r) r lt in
      ap (λ (x : Result (Unit {0}) LinkFault). x >>= λ u. run (by_index f member rs) u ns) (index_is n (get_or rs n r) at)
      ∙ at_number n (run (by_index f member rs) tt ns) (get_or rs n r) lt at follow (done (f (row member (get_or rs n (get_or rs n r))))) refl

  -- where the others have values, those of some numbers decide
  pub numbers_decide : (from : ℕ) (ns : List ℕ) → from ≤ length rs → HoldsBetween (HasOne f member rs) (length rs) from ns → run (by_index f member rs) tt ns ≡ each_has f (drop from (map (row member) rs))
  unfolding run
  numbers_decide from [] le have = sym (rest_pass from le have)
  numbers_decide from (n ∷ ns) le have =
      by_number n ns have.1.1.0 (numbers_decide (n + 1) ns (omega (arith, have.1.1.0)) have.1.1.1)
      ∙ sym (passed_to from n have.1.0 (omega (arith, have.1.1.0)) have.0)
