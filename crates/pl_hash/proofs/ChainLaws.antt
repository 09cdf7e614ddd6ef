-- What a chain is, one symbol at a time.
use Rattle.std.proofs.Common.{◌≡◌, ℕ, zero, suc, ◌+◌, ◌<◌, ◌≤◌, ◌-◌, Bool, true, false, cond, List, [], ◌∷◌, Option, Some, None, refl, sym, ap, ◌∙◌, arith}
use Rattle.std.specs.Prelude.{is_some, is_none, not}
use Rattle.std.proofs.lemmas.Option.{same_Some}
use Rattle.pl_hash.specs.Table.{HashTable}
use Rattle.pl_hash.specs.Chain.{chain_from, following, is_linked, with_first}

-- a chain from a symbol on is the symbol and the chain from the following one
abbrev pub Opened : HashTable → ℕ → ℕ → List ℕ → Type 0
Opened t steps index xs = (rest : List ℕ) × (is_linked t index ≡ true) × (chain_from t steps (following t index) ≡ Some rest) × (xs ≡ index ∷ rest)

opened_by : (t : HashTable) (steps index : ℕ) (xs : List ℕ) (b : Bool) (rest : Option (List ℕ)) → is_linked t index ≡ b → chain_from t steps (following t index) ≡ rest
    → cond b (with_first index rest) None ≡ Some xs → Opened t steps index xs
opened_by t steps index xs false rest linked is_rest e = absurd cc
opened_by t steps index xs true None linked is_rest e = absurd cc
opened_by t steps index xs true (Some rest) linked is_rest e = (rest, linked, is_rest, sym (same_Some (index ∷ rest) xs e))

pub opened : (t : HashTable) (steps index : ℕ) (xs : List ℕ) → chain_from t (suc steps) (Some index) ≡ Some xs → Opened t steps index xs
unfolding chain_from
opened t steps index xs e = opened_by t steps index xs (is_linked t index) (chain_from t steps (following t index)) refl refl e

pub chain_from-none : (t : HashTable) (steps : ℕ) → chain_from t steps None ≡ Some []
unfolding chain_from
chain_from-none t zero = refl
chain_from-none t (suc steps) = refl

pub chain_from-zero : (t : HashTable) (index : ℕ) → chain_from t 0 (Some index) ≡ None
unfolding chain_from
chain_from-zero t index = refl

pub chain_from-linked : (t : HashTable) (steps index : ℕ) → is_linked t index ≡ true → chain_from t (suc steps) (Some index) ≡ with_first index (chain_from t steps (following t index))
unfolding chain_from
chain_from-linked t steps index linked = rw linked refl

-- more steps change nothing
pub more_steps : (t : HashTable) (n m : ℕ) (start : Option ℕ) (xs : List ℕ) → n ≤ m → chain_from t n start ≡ Some xs → chain_from t m start ≡ Some xs
unfolding chain_from
more_steps t n m None xs le e = chain_from-none t m ∙ sym (chain_from-none t n) ∙ e
more_steps t zero m (Some index) xs le e = absurd cc
more_steps t (suc n) zero (Some index) xs le e = absurd (omega arith)
more_steps t (suc n) (suc m) (Some index) xs le e =
    let o = opened t n index xs e in
    let rest : chain_from t m (following t index) ≡ Some o.0 = more_steps t n m (following t index) o.0 (omega arith) o.2 in
    chain_from-linked t m index o.1 ∙ ap (with_first index) rest ∙ ap (λ (ys : List ℕ). Some ys) (sym o.3)

pub same_chain : (t : HashTable) (n m : ℕ) (start : Option ℕ) (xs ys : List ℕ) → chain_from t n start ≡ Some xs → chain_from t m start ≡ Some ys → xs ≡ ys
same_chain t n m start xs ys x y =
    same_Some xs ys (sym (more_steps t n (n + m) start xs (omega arith) x) ∙ more_steps t m (n + m) start ys (omega arith) y)

-- ---- a walk of so many steps, at step i

abbrev pub ends_within : HashTable → ℕ → Option ℕ → Bool
ends_within t steps at = is_some (chain_from t steps at)

pub is_some-with_first : (index : ℕ) (rest : Option (List ℕ)) → is_some (with_first index rest) ≡ is_some rest
is_some-with_first index None = refl
is_some-with_first index (Some rest) = refl

pub walk_ended : (t : HashTable) (steps : ℕ) (whole : Bool) → ends_within t steps None ≡ whole → whole ≡ true
walk_ended t steps whole so_far = sym so_far ∙ rw (chain_from-none t steps) refl

pub walk_left : (t : HashTable) (steps i index : ℕ) (whole : Bool) → i < steps → is_linked t index ≡ false → ends_within t (steps - i) (Some index) ≡ whole → whole ≡ false
unfolding chain_from
walk_left t steps i index whole lt unlinked so_far =
    let k : steps - i ≡ suc (steps - (i + 1)) = omega arith in
    sym so_far ∙ rw (k, unlinked) refl

pub walk_more : (t : HashTable) (steps i index : ℕ) (whole : Bool) → i < steps → is_linked t index ≡ true → ends_within t (steps - i) (Some index) ≡ whole
    → ends_within t (steps - (i + 1)) (following t index) ≡ whole
walk_more t steps i index whole lt linked so_far =
    let k : steps - i ≡ suc (steps - (i + 1)) = omega arith in
    let one : ends_within t (steps - i) (Some index) ≡ ends_within t (steps - (i + 1)) (following t index) =
    rw (k, chain_from-linked t (steps - (i + 1)) index linked) (is_some-with_first index (chain_from t (steps - (i + 1)) (following t index))) in
    sym one ∙ so_far

pub walk_over : (t : HashTable) (steps i : ℕ) (at : Option ℕ) → steps ≤ i → ends_within t (steps - i) at ≡ is_none at
walk_over t steps i None le = rw (chain_from-none t (steps - i)) refl
walk_over t steps i (Some index) le = let k : steps - i ≡ 0 = omega arith in rw (k, chain_from-zero t index) refl

pub flipped : (b c : Bool) → b ≡ not c → c ≡ not b
flipped b true e = rw e refl
flipped b false e = rw e refl
