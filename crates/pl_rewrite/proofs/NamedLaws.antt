-- Tests of the names in a list, at one name.
use Rattle.std.proofs.Common.{◌≡◌, ℕ, Bool, true, false, List, [], ◌∷◌, refl, sym, ap, ◌∙◌, inl, inr}
use Rattle.std.specs.Prelude.{◌&&◌}
use Rattle.std.specs.List.{list_any, filter}
use Rattle.std.specs.Str.{bytes_eq}
use Rattle.std.proofs.lemmas.Bool.{cases_Bool, false≢true}
use Rattle.pl_scope.specs.Members.{has}
use Rattle.pl_scope.proofs.NameLaws.{same_name}

-- ---- a test of the one name in a list that is a given one

abbrev pub is_named : (List ℕ → Bool) → List ℕ → List ℕ → Bool
is_named q n m = bytes_eq m n && q m

-- it fails where the name's test does
named_not : (q : List ℕ → Bool) (n : List ℕ) (ns : List (List ℕ)) → q n ≡ false → list_any (is_named q n) ns ≡ false
named_not q n [] off = refl
named_not q n (m ∷ ns) off = elim (cases_Bool (bytes_eq m n)) [
  | inl hit ↦
      let at : q m ≡ false = ap q (same_name m n hit) ∙ off in
      rw (hit, at, named_not q n ns off) refl
  | inr miss ↦ rw (miss, named_not q n ns off) refl
]

-- and holds where it holds of a name that is there
named_on : (q : List ℕ → Bool) (n : List ℕ) (ns : List (List ℕ)) → q n ≡ true → has ns n ≡ true → list_any (is_named q n) ns ≡ true
named_on q n [] on there = absurd (false≢true there)
named_on q n (m ∷ ns) on there = elim (cases_Bool (bytes_eq m n)) [
  | inl hit ↦
      let at : q m ≡ true = ap q (same_name m n hit) ∙ on in
      rw (hit, at) refl
  | inr miss ↦
      let rest : has ns n ≡ true = rw miss at there in
      rw (miss, named_on q n ns on rest) refl
]

pub named_at : (q : List ℕ → Bool) (n : List ℕ) (ns : List (List ℕ)) → has ns n ≡ true → list_any (is_named q n) ns ≡ q n
named_at q n ns there = elim (cases_Bool (q n)) [
  | inl on ↦ named_on q n ns on there ∙ sym on
  | inr off ↦ named_not q n ns off ∙ sym off
]

-- ---- names that pass a test

and_true : (b : Bool) → (b && true) ≡ b
and_true true = refl
and_true false = refl

and_false : (b : Bool) → (b && false) ≡ false
and_false true = refl
and_false false = refl

passed : (q : List ℕ → Bool) (n : List ℕ) (ns : List (List ℕ)) → has (filter q ns) n ≡ list_any (is_named q n) ns
passed q n [] = refl
passed q n (m ∷ ns) = elim (cases_Bool (q m)) [
  | inl on ↦ rw (on, and_true (bytes_eq m n), passed q n ns) refl
  | inr off ↦ rw (off, and_false (bytes_eq m n), passed q n ns) refl
]

-- a name that is there is among them where it passes
pub passed_at : (q : List ℕ → Bool) (n : List ℕ) (ns : List (List ℕ)) → has ns n ≡ true → has (filter q ns) n ≡ q n
passed_at q n ns there = passed q n ns ∙ named_at q n ns there
