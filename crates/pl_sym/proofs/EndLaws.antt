-- The size of a string by that of the string that begins at a later offset.
use Rattle.std.proofs.Common.{◌≡◌, inl, inr, ℕ, zero, suc, ◌+◌, ◌-◌, ◌*◌, ◌/◌, ◌<◌, ◌≤◌, true, false, List, [], ◌∷◌, length, take, drop, get_or, set, replicate, length-drop, Option, Some, None, refl, sym, ap, ◌∙◌, arith}
use Rattle.std.specs.Prelude.{position}
use Rattle.std.specs.List.{position_or_len}
use Rattle.std.specs.Option.{option_map}
use Rattle.std.proofs.lemmas.Bool.{cases_Bool, lt-ltb, le-ltb}
use Rattle.std.proofs.lemmas.Bool.Decides.{eqb_tells, leb_tells}
use Rattle.std.proofs.lemmas.List.{drop_all, drop-drop, get_or-set_same, get_or-set_other, get_or_past, get_or-replicate, length-set, length-replicate}
use Rattle.std.proofs.lemmas.List.Quantifiers.{position-Some}
use Rattle.pl_base.specs.Strings.{is_zero}
use Rattle.pl_sym.specs.StringEnds.{string_size}
use Rattle.pl_sym.specs.declared.string_ends.TheConstants.{BLOCK}

abbrev or_later : ℕ → Option ℕ → Option ℕ → Option ℕ
or_later n (Some k) later = Some k
or_later n None later = option_map (λ k. n + k) later

zero_size : (y : ℕ) (ys : List ℕ) → is_zero y ≡ true → position is_zero (y ∷ ys) ≡ Some 0
zero_size y ys e = rw (e, lt-ltb 0 (suc (length ys)) (omega arith)) refl

next_size : (y : ℕ) (ys : List ℕ) → is_zero y ≡ false → position is_zero (y ∷ ys) ≡ option_map (λ k. 1 + k) (position is_zero ys)
next_size y ys e =
    let size = position_or_len is_zero ys in
    elim (leb_tells (length ys) size) [
      | inl past ↦ rw (e, le-ltb (1 + size) (suc (length ys)) (omega (arith, past.1)), le-ltb size (length ys) past.1) refl
      | inr lt ↦ rw (e, lt-ltb (1 + size) (suc (length ys)) (omega (arith, lt.1)), lt-ltb size (length ys) lt.1) refl
    ]

more : (n : ℕ) (here later : Option ℕ) → or_later (suc n) (option_map (λ k. 1 + k) here) later ≡ option_map (λ k. 1 + k) (or_later n here later)
more n (Some k) later = refl
more n None None = refl
more n None (Some k) = ap (λ (m : ℕ). Some m) (omega arith)

none_before : (later : Option ℕ) → later ≡ or_later 0 None later
none_before None = refl
none_before (Some k) = ap (λ (m : ℕ). Some m) (omega arith)

parts : (n : ℕ) (xs : List ℕ) → position is_zero xs ≡ or_later n (position is_zero (take n xs)) (position is_zero (drop n xs))
parts zero [] = refl
parts (suc n) [] = refl
parts zero (x ∷ xs) = none_before (position is_zero (x ∷ xs))
parts (suc n) (x ∷ xs) = elim (cases_Bool (is_zero x)) [
  | inl hit ↦ zero_size x xs hit ∙ ap (λ o. or_later (suc n) o (position is_zero (drop n xs))) (sym (zero_size x (take n xs) hit))
  | inr other ↦ next_size x xs other ∙ ap (option_map (λ k. 1 + k)) (parts n xs) ∙ sym (more n (position is_zero (take n xs)) (position is_zero (drop n xs))) ∙ ap (λ o. or_later (suc n) o (position is_zero (drop n xs))) (sym (next_size x (take n xs) other))
]

from_parts : (xs : List ℕ) (from to : ℕ) → from ≤ to → string_size from xs ≡ or_later (to - from) (position is_zero (take (to - from) (drop from xs))) (string_size to xs)
unfolding string_size
from_parts xs from to le =
    let there : drop (to - from) (drop from xs) ≡ drop to xs = drop-drop (to - from) from xs ∙ ap (λ n. drop n xs) (omega (arith, le)) in
    parts (to - from) (drop from xs) ∙ ap (λ ys. or_later (to - from) (position is_zero (take (to - from) (drop from xs))) (position is_zero ys)) there

pub size_here : (xs : List ℕ) (from to size : ℕ) → from ≤ to → position is_zero (take (to - from) (drop from xs)) ≡ Some size → string_size from xs ≡ Some size
size_here xs from to size le here = from_parts xs from to le ∙ ap (λ o. or_later (to - from) o (string_size to xs)) here

pub size_later : (xs : List ℕ) (from to size : ℕ) → from ≤ to → position is_zero (take (to - from) (drop from xs)) ≡ None → string_size to xs ≡ Some size → string_size from xs ≡ Some (to - from + size)
size_later xs from to size le none later = from_parts xs from to le ∙ rw (none, later) refl

pub size_none : (xs : List ℕ) (from to : ℕ) → from ≤ to → position is_zero (take (to - from) (drop from xs)) ≡ None → string_size to xs ≡ None → string_size from xs ≡ None
size_none xs from to le none later = from_parts xs from to le ∙ rw (none, later) refl

-- a string stays in the strings
pub size_fits : (xs : List ℕ) (at size : ℕ) → string_size at xs ≡ Some size → at + size < length xs
unfolding string_size
size_fits xs at size is =
    let lt = (position-Some is_zero (drop at xs) size 0 is).0 in
    omega (arith, lt, length-drop at xs)

-- ---- the sizes at blocks, from one on

abbrev pub AreSizesFrom : List ℕ → List (Option ℕ) → ℕ → Type 0
AreSizesFrom strings sizes from =
    (length sizes ≡ length strings / BLOCK + 1) × (from ≤ length sizes) × ((block : ℕ) → from ≤ block → get_or sizes block None ≡ string_size (BLOCK * block) strings)

pub sizes_begin : (strings : List ℕ) (sizes : List (Option ℕ)) → length sizes ≡ length strings / BLOCK + 1 → ((block : ℕ) → get_or sizes block None ≡ None) → AreSizesFrom strings sizes (length sizes)
unfolding string_size
sizes_begin strings sizes len none = (len, omega arith, λ block le. none block ∙ sym (ap (position is_zero) (drop_all (BLOCK * block) strings (omega (arith, len, le)))))

pub one_noted : (strings : List ℕ) (sizes : List (Option ℕ)) (block : ℕ) (size : Option ℕ) → AreSizesFrom strings sizes (block + 1) → size ≡ string_size (BLOCK * block) strings → AreSizesFrom strings (set sizes block size) block
one_noted strings sizes block size are is = (
  length-set sizes block size ∙ are.0,
  omega (arith, are.1, length-set sizes block size),
  λ k le. elim (eqb_tells k block) [
    | inl same ↦ rw same.1 (get_or-set_same sizes block size None (omega (arith, are.1)) ∙ is)
    | inr other ↦ get_or-set_other sizes block k size None other.1 ∙ are.2 k (omega (arith, le, other.1))
  ],
)

pub none_replicated : (n k : ℕ) → get_or (replicate {A = Option ℕ} n None) k None ≡ None
none_replicated n k = elim (leb_tells n k) [
  | inl past ↦ get_or_past (replicate {A = Option ℕ} n None) k None (omega (arith, past.1, length-replicate {A = Option ℕ} n None))
  | inr lt ↦ get_or-replicate n k None None lt.1
]
