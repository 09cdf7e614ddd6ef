-- The digits of a number, found from the lowest on.
use Rattle.std.proofs.Common.{◌≡◌, ◌≤◌, ◌<◌, ℕ, zero, suc, ◌+◌, ◌/◌, ◌%◌, ◌^◌, ◌*◌, ◌==◌, List, [], ◌∷◌, ◌++◌, length, Bool, true, false, refl, sym, ap, subst, ◌∙◌, arith}
use Rattle.std.specs.Prelude.{if◌then◌else◌, nat_lt, reverse}
use Rattle.std.specs.Fmt.{decimal, digit_glyph, digits, digits_onto}
use Rattle.std.proofs.Math.Nat.{pow-suc}
use Rattle.std.proofs.lemmas.Bool.Decides.{nat_tests}
use Rattle.std.proofs.lemmas.List.{length-append, reverse-append}

glyph : (d : ℕ) → d < 10 → digit_glyph false d ≡ 48 + d
glyph d small =
    let test : nat_lt d 10 ≡ true = grind (arith, nat_tests) in
    ap (λ (b : Bool). if b then 48 + d else 87 + d) test

-- the next digit, and the last one
digits_next : (k left : ℕ) (digits : List ℕ) → 10 ≤ left → digits_onto (suc k) 10 false left digits ≡ digits_onto k 10 false (left / 10) (digit_glyph false (left % 10) ∷ digits)
digits_next k left digits big =
    let more : (left / 10 == 0) ≡ false = grind (arith, nat_tests) in
    ap (λ (b : Bool). if b then digit_glyph false (left % 10) ∷ digits else digits_onto k 10 false (left / 10) (digit_glyph false (left % 10) ∷ digits)) more

digits_last : (k left : ℕ) (digits : List ℕ) → left < 10 → digits_onto (suc k) 10 false left digits ≡ digit_glyph false (left % 10) ∷ digits
digits_last k left digits small =
    let none : (left / 10 == 0) ≡ true = grind (arith, nat_tests) in
    ap (λ (b : Bool). if b then digit_glyph false (left % 10) ∷ digits else digits_onto k 10 false (left / 10) (digit_glyph false (left % 10) ∷ digits)) none

-- a digit more
turned : (items new : List ℕ) (digit value : ℕ) → new ≡ items ++ digit ∷ [] → digit ≡ value → reverse new ≡ value ∷ reverse items
turned items new digit value is same = ap reverse is ∙ reverse-append items (digit ∷ []) ∙ ap (λ (d : ℕ). d ∷ reverse items) same

begun : (number : ℕ) → digits_onto 64 10 false number [] ≡ decimal number
unfolding digits
begun number = refl

-- before the first digit
pub starts : (number : ℕ) (items : List ℕ) → items ≡ [] → number < 2 ^ 64 → (1 ≤ 20) × (number < 10 ^ 20) × (length items + 20 ≡ 20) × (digits_onto (20 + 44) 10 false number (reverse items) ≡ decimal number)
starts number items none small = (
  omega arith,
  omega (arith, small),
  ap (λ (l : List ℕ). length l + 20) none,
  ap (λ (l : List ℕ). digits_onto 64 10 false number (reverse l)) none ∙ begun number,
)

one_more : (room left : ℕ) → 10 ≤ left → left < 10 ^ room * 10 → 1 ≤ room
one_more zero left big small = omega arith
one_more (suc room) left big small = omega arith

fewer : (room left : ℕ) → left < 10 ^ room * 10 → left / 10 < 10 ^ room
fewer room left small = omega (arith, small)

-- a number of more digits: there is room for another one
pub kept : (room next left number : ℕ) (items new : List ℕ) → room ≡ suc next → 10 ≤ left → left < 10 ^ room → length items + room ≡ 20 → digits_onto (room + 44) 10 false left (reverse items) ≡ decimal number → new ≡ items ++ (48 + left % 10) ∷ []
    → (1 ≤ next) × (left / 10 < 10 ^ next) × (length new + next ≡ 20) × (digits_onto (next + 44) 10 false (left / 10) (reverse new) ≡ decimal number)
kept room next left number items new more big small size so_far is =
    let longer : length new ≡ length items + 1 = ap length is ∙ length-append items ((48 + left % 10) ∷ []) in
    let digit : digit_glyph false (left % 10) ≡ 48 + left % 10 = glyph (left % 10) (omega arith) in
    let within : left < 10 ^ next * 10 = subst (λ (n : ℕ). left < n) (ap (λ (n : ℕ). 10 ^ n) more ∙ pow-suc 10 next) small in
    let steps : room + 44 ≡ suc (next + 44) = omega arith in (
      one_more next left big within,
      fewer next left within,
      omega (arith, size, longer, more),
      ap (digits_onto (next + 44) 10 false (left / 10)) (turned items new (48 + left % 10) (digit_glyph false (left % 10)) is (sym digit)) ∙ sym (digits_next (next + 44) left (reverse items) big)
          ∙ ap (λ (n : ℕ). digits_onto n 10 false left (reverse items)) (sym steps) ∙ so_far,
    )

-- and of one digit
pub finished : (room left number : ℕ) (items new : List ℕ) → left < 10 → digits_onto (room + 44) 10 false left (reverse items) ≡ decimal number → new ≡ items ++ (48 + left) ∷ [] → reverse new ≡ decimal number
finished room left number items new small so_far is =
    let only : left ≡ left % 10 = omega (arith, small) in
    let same : 48 + left ≡ digit_glyph false (left % 10) = ap (λ (d : ℕ). 48 + d) only ∙ sym (glyph (left % 10) (omega arith)) in
    let steps : room + 44 ≡ suc (room + 43) = omega arith in
    turned items new (48 + left) (digit_glyph false (left % 10)) is same ∙ sym (digits_last (room + 43) left (reverse items) small) ∙ ap (λ (n : ℕ). digits_onto n 10 false left (reverse items)) (sym steps) ∙ so_far
