-- Lists that are made row by row, and items that are taken one after the other.
use Rattle.std.proofs.Common.{◌≡◌, ℕ, zero, suc, ◌+◌, ◌<◌, List, [], ◌∷◌, ◌++◌, length, drop, Option, Some, None, refl, sym, ap, subst, ◌∙◌, arith, inl, inr}
use Rattle.std.specs.Prelude.{MatchOption, slice_get}
use Rattle.std.specs.List.{AllZip}
use Rattle.std.proofs.lemmas.Option.{none-some}
use Rattle.pl_cone.proofs.NeedLaws.{slice_get_push}

-- what is so of each row is so after one more
pub each_pushed : {X : Type 0} (P : ℕ → X → Type 0) (xs ys : List X) (x : X) → ys ≡ xs ++ x ∷ [] → P (length xs) x → ((i : ℕ) (y : X) → slice_get xs i ≡ Some y → P i y) → (i : ℕ) (y : X) → slice_get ys i ≡ Some y → P i y
each_pushed {X = X} P xs ys x is one each i y at = elim (slice_get_push xs x y i (ap (λ (zs : List X). slice_get zs i) (sym is) ∙ at)) [
  | inl front ↦ each i y front
  | inr last ↦ subst (λ (z : X). P i z) last.1 (subst (λ (k : ℕ). P k x) (sym last.0) one)
]

pub each_nothing : {X : Type 0} (P : ℕ → X → Type 0) (xs : List X) → xs ≡ [] → (i : ℕ) (y : X) → slice_get xs i ≡ Some y → P i y
each_nothing {X = X} P xs none i y at = absurd (none-some y (ap (λ (zs : List X). slice_get zs i) (sym none) ∙ at))

-- ---- the next of items

pub record IsTurn (X : Type 0) (xs : List X) (i : ℕ) (r : Option X) (rest : List X) (left : ℕ) : Type 0 where
  pub item : X
  pub is : r ≡ Some item
  pub at : slice_get xs i ≡ Some item
  pub after : rest ≡ drop (i + 1) xs
  pub count : left + (i + 1) ≡ length xs

no_cons : {X : Type 0} (x : X) (rest : List X) → [] ≡ x ∷ rest → ⊥
no_cons x rest e = cc

drop_at : {X : Type 0} (xs : List X) (i : ℕ) (x : X) (rest : List X) → drop i xs ≡ x ∷ rest → (slice_get xs i ≡ Some x) × (rest ≡ drop (suc i) xs)
drop_at [] zero x rest e = absurd (no_cons x rest e)
drop_at [] (suc i) x rest e = absurd (no_cons x rest e)
drop_at {X = X} (y ∷ xs) zero x rest e =
    let head : y ≡ x = cc in
    let tail : xs ≡ rest = cc in
    (ap (λ (z : X). Some z) head, sym tail)
drop_at (y ∷ xs) (suc i) x rest e = drop_at xs i x rest e

pub next_turn : {X : Type 0} (xs : List X) (i : ℕ) (r : Option X) (before rest : List X) (n left : ℕ) → i < length xs → before ≡ drop i xs → n + i ≡ length xs → MatchOption r ((n ≡ 0) × (left ≡ 0)) (λ x. (before ≡ x ∷ rest) × (left + 1 ≡ n)) → IsTurn X xs i r rest left
next_turn xs i None before rest n left lt is sum cases = absurd (omega (arith, lt, sum, cases.0))
next_turn xs i (Some x) before rest n left lt is sum cases =
    let next = drop_at xs i x rest (sym is ∙ cases.0) in
    let same : suc i ≡ i + 1 = omega arith in
    record { item = x; is = refl; at = next.0; after = next.1 ∙ ap (λ (k : ℕ). drop k xs) same; count = omega (arith, sum, cases.1) }

-- ---- two lists, row by row

pub zip_each : {X Y : Type 0} (R : X → Y → Type 0) (xs : List X) (ys : List Y) → length ys ≡ length xs → ((i : ℕ) (x : X) (y : Y) → slice_get xs i ≡ Some x → slice_get ys i ≡ Some y → R x y) → AllZip R xs ys
zip_each R [] [] same each = tt
zip_each R [] (y ∷ ys) same each = absurd (omega (arith, same))
zip_each R (x ∷ xs) [] same each = absurd (omega (arith, same))
zip_each R (x ∷ xs) (y ∷ ys) same each = (each 0 x y refl refl, zip_each R xs ys (omega (arith, same)) (λ i u v at there. each (suc i) u v at there))
