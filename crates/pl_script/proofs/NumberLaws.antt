-- What `parse` reads of the digits of a number.
use Rattle.std.proofs.Common.{◌≡◌, ◌∙◌, ◌<◌, ◌≤◌, ◌^◌, ◌==◌, ℕ, Bool, true, false, refl, sym, ap, subst, arith, List, [], ◌∷◌, Result, Ok, Err, Some, None, length, nat_lt, lt-ltb, ltb-true}
use Rattle.std.specs.Prelude.{◌&&◌, ◌||◌, not, nat_eq, codes, MatchResult}
use Rattle.std.specs.List.{list_all, starts_with}
use Rattle.std.specs.Char.{digit_value}
use Rattle.std.specs.Str.Parse.{AllDigits, IsNumeral, ParsesUnsigned, digits_value, without_leading_plus}
use Rattle.std.proofs.lemmas.Bool.{and_parts}
use Rattle.std.proofs.lemmas.Bool.Decides.{nat_tests}
use Rattle.pl_script.specs.Grammar.{is_digit, is_number, number}

abbrev IsDigit : ℕ → Type 0
IsDigit d = (digit_value d < 10) × (48 ≤ d)

digit_is : (d : ℕ) → is_digit d ≡ true → IsDigit d
unfolding is_digit
digit_is d e = grind (arith, nat_tests)

all_digits : (ds : List ℕ) → list_all is_digit ds ≡ true → AllDigits 10 ds
all_digits [] e = tt
all_digits (d ∷ ds) e =
    let parts = and_parts (is_digit d) (list_all is_digit ds) e in
    ((digit_is d parts.0).0, all_digits ds parts.1)

no_plus : (ds : List ℕ) → list_all is_digit ds ≡ true → without_leading_plus ds ≡ ds
no_plus [] e = refl
no_plus (d ∷ ds) e =
    let low : 48 ≤ d = (digit_is d (and_parts (is_digit d) (list_all is_digit ds) e).0).1 in
    let other : (d == 43) ≡ false = grind (arith, nat_tests) in
    rw other refl

of_numeral : {E : Type 0} (text : List ℕ) (r : Result ℕ E) → without_leading_plus text ≡ text → IsNumeral 10 text → is_number text ≡ true → ParsesUnsigned 32 10 text r
    → MatchResult r (λ n. number text ≡ Some n) (λ _. number text ≡ None)
unfolding number
of_numeral text (Ok n) same is passes h =
    let fits : digits_value 10 text < 2 ^ 32 = subst (λ t. digits_value 10 t < 2 ^ 32) same h.0.1 in
    rw (passes, lt-ltb (digits_value 10 text) (2 ^ 32) fits) (ap Some (sym (h.1 ∙ ap (digits_value 10) same)))
of_numeral text (Err e) same is passes h = go (nat_lt (digits_value 10 text) (2 ^ 32)) refl
  where
    go : (b : Bool) → nat_lt (digits_value 10 text) (2 ^ 32) ≡ b → number text ≡ None
    go false t = rw (passes, t) refl
    go true t = absurd (h (subst (IsNumeral 10) (sym same) is, subst (λ t. digits_value 10 t < 2 ^ 32) (sym same) (ltb-true _ _ t)))

-- the number that `parse` gives of a number's digits, or none where it has more than 32 bits
pub parsed : {E : Type 0} (text : List ℕ) (r : Result ℕ E) → is_number text ≡ true → ParsesUnsigned 32 10 text r
    → MatchResult r (λ n. number text ≡ Some n) (λ _. number text ≡ None)
unfolding is_number
parsed text r is h =
    let both = and_parts (nat_lt 0 (length text) && list_all is_digit text) (length text == 1 || not (starts_with nat_eq text (codes "0"))) is in
    let parts = and_parts (nat_lt 0 (length text)) (list_all is_digit text) both.0 in
    of_numeral text r (no_plus text parts.1) (ltb-true _ _ parts.0, all_digits text parts.1) is h
