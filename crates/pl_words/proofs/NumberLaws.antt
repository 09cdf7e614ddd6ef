-- What `parse` reads of digits alone.
use Rattle.std.proofs.Common.{◌≡◌, ◌∙◌, ◌<◌, ◌≤◌, ◌^◌, ◌==◌, ℕ, Bool, true, false, refl, sym, ap, subst, arith, List, [], ◌∷◌, Result, Ok, Err, nat_lt, lt-ltb, ltb-true}
use Rattle.std.specs.Prelude.{MatchResult}
use Rattle.std.specs.List.{list_all}
use Rattle.std.specs.Char.{digit_value}
use Rattle.std.specs.Str.Parse.{AllDigits, IsNumeral, ParsesUnsigned, digits_value, without_leading_plus}
use Rattle.std.proofs.lemmas.Bool.Decides.{nat_tests}
use Rattle.clap.proofs.WalkLemmas.{both}
use Rattle.pl_words.specs.Numbers.{decimal, hexadecimal, is_decimal, is_decimal_digit, is_hexadecimal, is_hexadecimal_digit, number}
use Rattle.pl_words.specs.declared.fault.WordsFault.TheVariants.{Usage}

-- a digit of the radix, and no `+`
abbrev IsOf : ℕ → ℕ → Type 0
IsOf radix d = (digit_value d < radix) × (48 ≤ d)

all_of : (radix : ℕ) (p : ℕ → Bool) → ((d : ℕ) → p d ≡ true → IsOf radix d) → (ds : List ℕ) → list_all p ds ≡ true → AllDigits radix ds
all_of radix p is [] e = tt
all_of radix p is (d ∷ ds) e = ((is d (both _ _ e).0).0, all_of radix p is ds (both _ _ e).1)

no_plus : (radix : ℕ) (p : ℕ → Bool) → ((d : ℕ) → p d ≡ true → IsOf radix d) → (ds : List ℕ) → list_all p ds ≡ true → without_leading_plus ds ≡ ds
no_plus radix p is [] e = refl
no_plus radix p is (d ∷ ds) e =
    let low : 48 ≤ d = (is d (both _ _ e).0).1 in
    let other : (d == 43) ≡ false = grind (arith, nat_tests) in
    rw other refl

of_numeral : {E : Type 0} (radix : ℕ) (text : List ℕ) (r : Result ℕ E) → without_leading_plus text ≡ text → IsNumeral radix text → ParsesUnsigned 64 radix text r
    → MatchResult r (λ n. number radix text ≡ Ok n) (λ _. number radix text ≡ Err Usage)
of_numeral radix text (Ok n) same is h =
    let fits : digits_value radix text < 2 ^ 64 = subst (λ t. digits_value radix t < 2 ^ 64) same h.0.1 in
    rw (lt-ltb (digits_value radix text) (2 ^ 64) fits) (ap Ok (sym (h.1 ∙ ap (digits_value radix) same)))
of_numeral radix text (Err e) same is h = go (nat_lt (digits_value radix text) (2 ^ 64)) refl
  where
    go : (b : Bool) → nat_lt (digits_value radix text) (2 ^ 64) ≡ b → number radix text ≡ Err Usage
    go false t = rw t refl
    go true t = absurd (h (subst (IsNumeral radix) (sym same) is, subst (λ t. digits_value radix t < 2 ^ 64) (sym same) (ltb-true _ _ t)))

is_decimal_of : (d : ℕ) → is_decimal_digit d ≡ true → IsOf 10 d
unfolding is_decimal_digit
is_decimal_of d e = grind (arith, nat_tests)

is_hexadecimal_of : (d : ℕ) → is_hexadecimal_digit d ≡ true → IsOf 16 d
unfolding is_hexadecimal_digit is_decimal_digit
is_hexadecimal_of d e = grind (arith, nat_tests)

-- the number that `parse` gives of decimal digits, or none where it has more than 64 bits
pub parsed_decimal : {E : Type 0} (text : List ℕ) (r : Result ℕ E) → is_decimal text ≡ true → ParsesUnsigned 64 10 text r
    → MatchResult r (λ n. decimal text ≡ Ok n) (λ _. decimal text ≡ Err Usage)
unfolding is_decimal decimal
parsed_decimal text r is h =
    let all = (both _ _ is).1 in
    rw is (of_numeral 10 text r (no_plus 10 is_decimal_digit is_decimal_of text all) (ltb-true _ _ (both _ _ is).0, all_of 10 is_decimal_digit is_decimal_of text all) h)

-- the same of hexadecimal digits
pub parsed_hexadecimal : {E : Type 0} (text : List ℕ) (r : Result ℕ E) → is_hexadecimal text ≡ true → ParsesUnsigned 64 16 text r
    → MatchResult r (λ n. hexadecimal text ≡ Ok n) (λ _. hexadecimal text ≡ Err Usage)
unfolding is_hexadecimal hexadecimal
parsed_hexadecimal text r is h =
    let all = (both _ _ is).1 in
    rw is (of_numeral 16 text r (no_plus 16 is_hexadecimal_digit is_hexadecimal_of text all) (ltb-true _ _ (both _ _ (both _ _ is).0).0, all_of 16 is_hexadecimal_digit is_hexadecimal_of text all) h)
