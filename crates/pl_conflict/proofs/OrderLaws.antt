-- Rows in ascending order of their addresses: there is one such list of rows whose addresses differ.
use Rattle.std.proofs.Common.{◌≡◌, ℕ, suc, ◌<◌, ◌≤◌, Bool, true, false, List, [], ◌∷◌, length, get_or, refl, sym, ap, subst, ◌∙◌, arith, inl, inr}
use Rattle.std.specs.Prelude.{◌⊎◌, ◌==◌, nat_lt, All}
use Rattle.std.specs.List.{AllByRecursion, IsDistinct}
use Rattle.std.specs.List.Sorted.{IsPermutation, IsNonDecreasingBy}
use Rattle.std.proofs.lemmas.Bool.{cases_Bool}
use Rattle.std.proofs.lemmas.Bool.Decides.{nat_tests}
use Rattle.std.proofs.lemmas.List.Elements.{All-head, All-tail, All-nil, All-cons, All-weaker}
use Rattle.std.proofs.lemmas.List.Sorted.{All-permutation, IsPermutation-sym, IsPermutation-refl, IsPermutation-cons, IsPermutation-trans, IsPermutation-middle}
use Rattle.std.proofs.lemmas.Map.Keys.{IsDistinct-IsPermutation}
use Rattle.pl_lists.specs.Conflicts.{ascend}
use Rattle.pl_lists.specs.declared.conflict_row.ConflictRow.{ConflictRow}
use Rattle.pl_conflict.specs.Conflicts.{inserted, ascending}

-- each address is below those of all later rows
abbrev pub Rises : List ConflictRow → Type 0
Rises [] = Unit {0}
Rises (r ∷ rs) = All (λ s. r.address < s.address) rs × Rises rs

-- ---- there is one

-- whatever holds of all rows of one list holds of all of the other
abbrev Covers : List ConflictRow → List ConflictRow → Type 1
Covers xs ys = (P : ConflictRow → Type 0) → All P xs → All P ys

-- a row of a list, or a later one
abbrev From : ConflictRow → ConflictRow → Type 0
From x z = (z ≡ x) ⊎ (x.address < z.address)

from_head : (x : ConflictRow) (xs : List ConflictRow) → All (λ s. x.address < s.address) xs → All (From x) (x ∷ xs)
from_head x xs above = All-cons (From x) x xs (inl refl) (All-weaker (λ s. x.address < s.address) (From x) (λ s lt. inr lt) xs above)

-- the first rows are one
same_head : (x y : ConflictRow) → From x y → From y x → x ≡ y
same_head x y (inl is) other = sym is
same_head x y (inr lt) (inl is) = is
same_head x y (inr lt) (inr less) = absurd (omega (arith, lt, less))

-- and so are the rest
rest_covers : (x : ConflictRow) (xs ys : List ConflictRow) → All (λ s. x.address < s.address) xs → All (λ s. x.address < s.address) ys → Covers (x ∷ xs) (x ∷ ys) → Covers xs ys
rest_covers x xs ys above later covers P all =
    let Q : ConflictRow → Type 0 = λ s. (s ≡ x) ⊎ P s in
    let whole : All Q (x ∷ ys) = covers Q (All-cons Q x xs (inl refl) (All-weaker P Q (λ s p. inr p) xs all)) in
    let tail : All Q ys = All-tail Q x ys whole in
    λ k d lt. kept (get_or ys k d) (later k d lt) (tail k d lt)
  where
    kept : (s : ConflictRow) → x.address < s.address → (s ≡ x) ⊎ P s → P s
    kept s lt (inl is) = absurd (omega (arith, subst (λ (r : ConflictRow). x.address < r.address) is lt))
    kept s lt (inr p) = p

same_rows : (xs ys : List ConflictRow) → Rises xs → Rises ys → Covers xs ys → Covers ys xs → xs ≡ ys
same_rows [] [] up also there back = refl
same_rows [] (y ∷ ys) up also there back = absurd (All-head (λ _. ⊥) y ys (there (λ _. ⊥) (All-nil (λ _. ⊥))))
same_rows (x ∷ xs) [] up also there back = absurd (All-head (λ _. ⊥) x xs (back (λ _. ⊥) (All-nil (λ _. ⊥))))
same_rows (x ∷ xs) (y ∷ ys) up also there back =
    let is : x ≡ y = same_head x y (All-head (From x) y ys (there (From x) (from_head x xs up.0))) (All-head (From y) x xs (back (From y) (from_head y ys also.0))) in
    let above : All (λ s. x.address < s.address) ys = subst (λ (r : ConflictRow). All (λ s. r.address < s.address) ys) (sym is) also.0 in
    let forth : Covers (x ∷ xs) (x ∷ ys) = subst (λ (r : ConflictRow). Covers (x ∷ xs) (r ∷ ys)) (sym is) there in
    let home : Covers (x ∷ ys) (x ∷ xs) = subst (λ (r : ConflictRow). Covers (r ∷ ys) (x ∷ xs)) (sym is) back in
    ap (λ (r : ConflictRow). r ∷ xs) is ∙ ap (λ (rs : List ConflictRow). y ∷ rs) (same_rows xs ys up.1 also.1 (rest_covers x xs ys up.0 above forth) (rest_covers x ys xs above up.0 home))

-- two lists of the same rows, both in this order, are one
pub one_order : (xs ys : List ConflictRow) → Rises xs → Rises ys → IsPermutation xs ys → xs ≡ ys
one_order xs ys up also perm = same_rows xs ys up also (λ P all. All-permutation P xs ys perm all) (λ P all. All-permutation P ys xs (IsPermutation-sym xs ys perm) all)

-- ---- insertion

rises_less : (r n : ConflictRow) (later : List ConflictRow) → r.address < n.address → All (λ s. n.address < s.address) later → All (λ s. r.address < s.address) (n ∷ later)
rises_less r n later lt above =
    All-cons (λ s. r.address < s.address) n later lt (All-weaker (λ s. n.address < s.address) (λ s. r.address < s.address) (λ s less. omega (arith, lt, less)) later above)

inserted_perm : (r : ConflictRow) (rs : List ConflictRow) → IsPermutation (r ∷ rs) (inserted r rs)
unfolding inserted
inserted_perm r [] = IsPermutation-refl (r ∷ [])
inserted_perm r (n ∷ later) = elim (cases_Bool (nat_lt r.address n.address)) [
  | inl lt ↦ rw lt (IsPermutation-refl (r ∷ n ∷ later))
  | inr ge ↦ rw ge (IsPermutation-trans (r ∷ n ∷ later) (n ∷ r ∷ later) (n ∷ inserted r later) (IsPermutation-middle (r ∷ []) n later) (IsPermutation-cons n (r ∷ later) (inserted r later) (inserted_perm r later)))
]

pub ascending_perm : (rs : List ConflictRow) → IsPermutation rs (ascending rs)
unfolding ascending
ascending_perm [] = IsPermutation-refl []
ascending_perm (r ∷ rs) =
    IsPermutation-trans (r ∷ rs) (r ∷ ascending rs) (inserted r (ascending rs)) (IsPermutation-cons r rs (ascending rs) (ascending_perm rs)) (inserted_perm r (ascending rs))

-- ---- rows whose addresses differ

abbrev pub same_address : ConflictRow → ConflictRow → Bool
same_address a b = a.address == b.address

less_of : (a b : ℕ) → nat_lt a b ≡ true → a < b
less_of a b h = grind (arith, nat_tests)

more_of : (a b : ℕ) → nat_lt a b ≡ false → (a == b) ≡ false → b < a
more_of a b h differ = grind (arith, nat_tests)

strict : (a b : ℕ) → a ≤ b → (a == b) ≡ false → a < b
strict a b le differ = grind (arith, nat_tests)

equal_of : (a b : ℕ) → (a == b) ≡ true → a ≡ b
equal_of a b h = grind (arith, nat_tests)

other_of : (a b : ℕ) → (a == b) ≡ false → (b == a) ≡ false
other_of a b h = grind (arith, nat_tests)

same_flips : (a b : ℕ) → a ≡ b → (a == b) ≡ (b == a)
same_flips a b is = rw is refl

flips : (a b : ℕ) → (a == b) ≡ (b == a)
flips a b = elim (cases_Bool (a == b)) [
  | inl same ↦ same_flips a b (equal_of a b same)
  | inr differ ↦ differ ∙ sym (other_of a b differ)
]

inserted_rises : (r : ConflictRow) (rs : List ConflictRow) → Rises rs → AllByRecursion (λ s. same_address r s ≡ false) rs → Rises (inserted r rs)
unfolding inserted
inserted_rises r [] up apart = (All-nil (λ s. r.address < s.address), tt)
inserted_rises r (n ∷ later) up apart = elim (cases_Bool (nat_lt r.address n.address)) [
  | inl lt ↦ rw lt (rises_less r n later (less_of r.address n.address lt) up.0, up)
  | inr ge ↦
      let above : All (λ s. n.address < s.address) (r ∷ later) = All-cons (λ s. n.address < s.address) r later (more_of r.address n.address ge apart.0) up.0 in
      rw ge (All-permutation (λ s. n.address < s.address) (r ∷ later) (inserted r later) (inserted_perm r later) above, inserted_rises r later up.1 apart.1)
]

pub ascending_rises : (rs : List ConflictRow) → IsDistinct same_address rs → Rises (ascending rs)
unfolding ascending IsDistinct
ascending_rises [] apart = tt
ascending_rises (r ∷ rs) apart =
    let moved : IsDistinct same_address (r ∷ ascending rs) = IsDistinct-IsPermutation same_address (λ a b. flips a.address b.address) (r ∷ rs) (r ∷ ascending rs) (IsPermutation-cons r rs (ascending rs) (ascending_perm rs)) apart in
    inserted_rises r (ascending rs) (ascending_rises rs apart.1) moved.0

-- ---- rows in order whose addresses differ

sorted_above : (r : ConflictRow) (rs : List ConflictRow) → ((k : ℕ) (d : ConflictRow) → k < length rs → r.address ≤ (get_or rs k d).address) → AllByRecursion (λ s. same_address r s ≡ false) rs → All (λ s. r.address < s.address) rs
sorted_above r [] low apart = All-nil (λ s. r.address < s.address)
sorted_above r (s ∷ rs) low apart =
    All-cons (λ s. r.address < s.address) s rs (strict r.address s.address (low 0 s (omega arith)) apart.0) (sorted_above r rs (λ k d lt. low (suc k) d (omega (arith, lt))) apart.1)

sorted_rises : (rs : List ConflictRow) → IsNonDecreasingBy (λ r. r.address) rs → IsDistinct same_address rs → Rises rs
unfolding IsDistinct
sorted_rises [] up apart = tt
sorted_rises (r ∷ rs) up apart = (
  sorted_above r rs (λ k d lt. up 0 (suc k) d (omega arith) (omega (arith, lt))) apart.0,
  sorted_rises rs (λ i j d le lt. up (suc i) (suc j) d (omega (arith, le)) (omega (arith, lt))) apart.1,
)

-- rows whose addresses differ are in ascending order where they are in some order of their addresses
pub sorted_ascending : (rs sorted : List ConflictRow) → IsDistinct same_address rs → IsPermutation rs sorted → IsNonDecreasingBy (λ r. r.address) sorted → ascending rs ≡ sorted
sorted_ascending rs sorted apart perm up =
    one_order (ascending rs) sorted (ascending_rises rs apart) (sorted_rises sorted up (IsDistinct-IsPermutation same_address (λ a b. flips a.address b.address) rs sorted perm apart))
    (IsPermutation-trans (ascending rs) rs sorted (IsPermutation-sym rs (ascending rs) (ascending_perm rs)) perm)

below_next : (r : ConflictRow) (n : ConflictRow) → r.address < n.address → nat_lt r.address n.address ≡ true
below_next r n lt = grind (arith, nat_tests)

pub rises_ascend : (rs : List ConflictRow) → Rises rs → ascend rs ≡ true
unfolding ascend
rises_ascend [] up = refl
rises_ascend (r ∷ []) up = refl
rises_ascend (r ∷ n ∷ rs) up = rw (below_next r n (All-head (λ s. r.address < s.address) n rs up.0)) (rises_ascend (n ∷ rs) up.1)

pub ascending_ascend : (rs : List ConflictRow) → IsDistinct same_address rs → ascend (ascending rs) ≡ true
ascending_ascend rs apart = rises_ascend (ascending rs) (ascending_rises rs apart)
