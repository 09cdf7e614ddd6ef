-- The names of a generated set are valid, and in one word.
use Rattle.std.proofs.Common.{◌≡◌, ℕ, zero, suc, ◌+◌, ◌-◌, ◌/◌, ◌%◌, ◌<◌, ◌≤◌, Bool, true, false, List, [], ◌∷◌, ◌++◌, length, replicate, drop, get_or, None, refl, sym, ap, ◌∙◌, length-append, arith, inl, inr}
use Rattle.std.specs.Prelude.{◌==◌, ◌&&◌, ◌||◌, nat_le, nat_lt, codes}
use Rattle.std.specs.Fmt.{decimal, digits, digits_onto, digit_glyph}
use Rattle.std.specs.List.{list_all, list_any, position_or_len}
use Rattle.std.specs.Str.{bytes_eq}
use Rattle.std.proofs.lemmas.Bool.{cases_Bool, cases_lt, and_parts, false≢true}
use Rattle.std.proofs.lemmas.Bool.Decides.{nat_tests}
use Rattle.std.proofs.lemmas.List.{length-replicate}
use Rattle.std.proofs.lemmas.Slice.Eq.{bytes_eq-Decides}
use Rattle.pl_base.specs.Names.{is_name_byte, is_own_name, is_dots, is_valid_name}
use Rattle.pl_build.specs.Words.{cut}
use Rattle.pl_gen.specs.Lines.{three, library_name, program_name, function_name, object_name}
use Rattle.law_demo.specs.Spelled.{IsPlainName}

-- a lower-case letter or a digit
is_plain : ℕ → Bool
is_plain b = nat_le 48 b && nat_le b 57 || nat_le 97 b && nat_le b 122

-- ---- decimal digits

glyph_plain : (d : ℕ) → d < 10 → is_plain (digit_glyph false d) ≡ true
unfolding is_plain
glyph_plain d lt =
    let low : nat_lt d 10 ≡ true = grind (arith, nat_tests) in
    let a : nat_le 48 (48 + d) ≡ true = grind (arith, nat_tests) in
    let b : nat_le (48 + d) 57 ≡ true = grind (arith, nat_tests) in
    rw (low, a, b) refl

digits_plain : (fuel n : ℕ) (acc : List ℕ) → list_all is_plain acc ≡ true → list_all is_plain (digits_onto fuel 10 false n acc) ≡ true
digits_plain zero n acc all = all
digits_plain (suc fuel) n acc all = elim (cases_Bool (n / 10 == 0)) [
  | inl none ↦ rw none (rw (glyph_plain (n % 10) (omega arith)) all)
  | inr more ↦ rw more (digits_plain fuel (n / 10) (digit_glyph false (n % 10) ∷ acc) (rw (glyph_plain (n % 10) (omega arith)) all))
]

digits_few : (fuel n : ℕ) (acc : List ℕ) → length (digits_onto fuel 10 false n acc) ≤ fuel + length acc
digits_few zero n acc = omega arith
digits_few (suc fuel) n acc = elim (cases_Bool (n / 10 == 0)) [
  | inl none ↦ rw none (omega arith)
  | inr more ↦ rw more (let rest = digits_few fuel (n / 10) (digit_glyph false (n % 10) ∷ acc) in omega (arith, rest))
]

all_append : (p : ℕ → Bool) (xs ys : List ℕ) → list_all p xs ≡ true → list_all p ys ≡ true → list_all p (xs ++ ys) ≡ true
all_append p [] ys all more = more
all_append p (x ∷ xs) ys all more =
    let parts = and_parts (p x) (list_all p xs) all in
    rw parts.0 (all_append p xs ys parts.1 more)

zeros_plain : (n : ℕ) → list_all is_plain (replicate n 48) ≡ true
unfolding is_plain
zeros_plain zero = refl
zeros_plain (suc n) = zeros_plain n

three_plain : (n : ℕ) → list_all is_plain (three n) ≡ true
unfolding three digits
three_plain n = all_append is_plain (replicate (3 - length (decimal n)) 48) (decimal n) (zeros_plain (3 - length (decimal n))) (digits_plain 64 n [] refl)

pub three_few : (n : ℕ) → length (three n) ≤ 67
unfolding three digits
three_few n =
    omega (arith, length-append (replicate (3 - length (decimal n)) 48) (decimal n), length-replicate {A = ℕ} (3 - length (decimal n)) 48, digits_few 64 n [])

-- ---- names of such bytes

all_bytes : (p q : ℕ → Bool) → ((b : ℕ) → p b ≡ true → q b ≡ true) → (xs : List ℕ) → list_all p xs ≡ true → list_all q xs ≡ true
all_bytes p q each [] all = refl
all_bytes p q each (x ∷ xs) all =
    let parts = and_parts (p x) (list_all p xs) all in
    rw (each x parts.0) (all_bytes p q each xs parts.1)

none_of : (c : ℕ) → is_plain c ≡ false → (xs : List ℕ) → list_all is_plain xs ≡ true → list_any (λ b. b == c) xs ≡ false
none_of c other [] all = refl
none_of c other (x ∷ xs) all =
    let parts = and_parts (is_plain x) (list_all is_plain xs) all in
    elim (cases_Bool (x == c)) [
      | inl hit ↦ absurd (false≢true (sym other ∙ sym (ap is_plain (same_number x c hit)) ∙ parts.0))
      | inr miss ↦ rw miss (none_of c other xs parts.1)
    ]
  where
    same_number : (a b : ℕ) → (a == b) ≡ true → a ≡ b
    same_number a b h = grind (arith, nat_tests)

plain_byte : (b : ℕ) → is_plain b ≡ true → is_name_byte b ≡ true
unfolding is_plain is_name_byte
plain_byte b h = grind (arith, nat_tests)

none_at : (c : ℕ) (xs : List ℕ) → list_any (λ b. b == c) xs ≡ false → position_or_len (λ b. b == c) xs ≡ length xs
none_at c [] none = refl
none_at c (x ∷ xs) none = elim (cases_Bool (x == c)) [
  | inl hit ↦ absurd (false≢true (sym (rw hit at none)))
  | inr miss ↦ rw miss (let more = none_at c xs (rw miss at none) in omega (arith, more))
]

uncut : (xs : List ℕ) → list_any (λ b. b == 64) xs ≡ false → cut xs ≡ None
unfolding cut
uncut xs none = rw (none_at 64 xs none, not_below (length xs)) refl
  where
    not_below : (n : ℕ) → nat_lt n n ≡ false
    not_below n = grind (arith, nat_tests)

-- a letter and such bytes behind it
plain_name : (first : ℕ) (rest : List ℕ) → nat_le 97 first ≡ true → list_all is_plain (first ∷ rest) ≡ true → length rest ≤ 80 → IsPlainName (first ∷ rest)
unfolding is_valid_name is_own_name is_dots is_plain
plain_name first rest letter all few = record {
  valid =
      let some : nat_le 1 (length (first ∷ rest)) ≡ true = at_most 1 (length (first ∷ rest)) (omega arith) in
      let short : nat_le (length (first ∷ rest)) 255 ≡ true = at_most (length (first ∷ rest)) 255 (omega (arith, few)) in
      let no_dot : (46 == first) ≡ false = grind (arith, nat_tests) in
      let dot_no : (first == 46) ≡ false = grind (arith, nat_tests) in
      rw (some, short, all_bytes is_plain is_name_byte plain_byte (first ∷ rest) all, no_dot, dot_no) refl;
  unsigned = uncut (first ∷ rest) (none_of 64 refl (first ∷ rest) all);
  whole = none_of 32 refl (first ∷ rest) all;
}
  where
    at_most : (a b : ℕ) → a ≤ b → nat_le a b ≡ true
    at_most a b le = grind (arith, nat_tests)

-- ---- the names of a set

pub library_plain : (n : ℕ) → IsPlainName (library_name n)
unfolding is_plain
library_plain n = plain_name 108 (105 ∷ 98 ∷ three n) refl (three_plain n) (omega (arith, three_few n))

pub function_plain : (n : ℕ) → IsPlainName (function_name n)
unfolding is_plain
function_plain n = plain_name 115 (three n) refl (three_plain n) (omega (arith, three_few n))

pub object_plain : (n : ℕ) → IsPlainName (object_name n)
unfolding is_plain
object_plain n = plain_name 111 (three n) refl (three_plain n) (omega (arith, three_few n))

pub program_plain : (n : ℕ) → IsPlainName (program_name n)
unfolding is_plain
program_plain n = plain_name 112 (114 ∷ 111 ∷ 103 ∷ three n) refl (three_plain n) (omega (arith, three_few n))

-- no newline in them
pub library_line : (n : ℕ) → list_any (λ b. b == 10) (library_name n) ≡ false
unfolding is_plain
library_line n = none_of 10 refl (library_name n) (all_append is_plain (codes "lib") (three n) refl (three_plain n))

pub function_in_line : (n : ℕ) → list_any (λ b. b == 10) (function_name n) ≡ false
unfolding is_plain
function_in_line n = none_of 10 refl (function_name n) (all_append is_plain (codes "s") (three n) refl (three_plain n))

pub object_in_line : (n : ℕ) → list_any (λ b. b == 10) (object_name n) ≡ false
unfolding is_plain
object_in_line n = none_of 10 refl (object_name n) (all_append is_plain (codes "o") (three n) refl (three_plain n))

-- ---- names of different numbers differ

-- the last digit
last_digit : (fuel n : ℕ) (acc : List ℕ) → n < 10 → digits_onto (suc fuel) 10 false n acc ≡ (48 + n) ∷ acc
last_digit fuel n acc low =
    let none : (n / 10 == 0) ≡ true = grind (arith, nat_tests) in
    let small : nat_lt n 10 ≡ true = grind (arith, nat_tests) in
    let same : n % 10 ≡ n = omega (arith, low) in
    rw (none, same, small) refl

-- a digit before the last
more_digits : (fuel n : ℕ) (acc : List ℕ) → 10 ≤ n → digits_onto (suc fuel) 10 false n acc ≡ digits_onto fuel 10 false (n / 10) ((48 + n % 10) ∷ acc)
more_digits fuel n acc high =
    let more : (n / 10 == 0) ≡ false = grind (arith, nat_tests) in
    let small : nat_lt (n % 10) 10 ≡ true = grind (arith, nat_tests) in
    rw (more, small) refl

one_digit : (n : ℕ) → n < 10 → decimal n ≡ (48 + n) ∷ []
unfolding digits
one_digit n low = last_digit 63 n [] low

two_digits : (n : ℕ) → 10 ≤ n → n < 100 → decimal n ≡ (48 + n / 10) ∷ (48 + n % 10) ∷ []
unfolding digits
two_digits n high low = more_digits 63 n [] high ∙ last_digit 62 (n / 10) ((48 + n % 10) ∷ []) (omega (arith, low))

three_digits : (n : ℕ) → 100 ≤ n → n < 1000 → decimal n ≡ (48 + n / 10 / 10) ∷ (48 + n / 10 % 10) ∷ (48 + n % 10) ∷ []
unfolding digits
three_digits n high low =
    more_digits 63 n [] (omega (arith, high)) ∙ more_digits 62 (n / 10) ((48 + n % 10) ∷ []) (omega (arith, high))
    ∙ last_digit 61 (n / 10 / 10) ((48 + n / 10 % 10) ∷ (48 + n % 10) ∷ []) (omega (arith, low))

abbrev glyphs : ℕ → ℕ → ℕ → List ℕ
glyphs a b c = (48 + a) ∷ (48 + b) ∷ (48 + c) ∷ []

three_is : (n : ℕ) → n < 1000 → three n ≡ glyphs (n / 10 / 10) (n / 10 % 10) (n % 10)
unfolding three
three_is n low = elim (cases_lt n 10) [
  | inl one ↦
      let a : n / 10 / 10 ≡ 0 = omega (arith, one) in
      let b : n / 10 % 10 ≡ 0 = omega (arith, one) in
      let c : n % 10 ≡ n = omega (arith, one) in
      ap (λ (ds : List ℕ). replicate (3 - length ds) 48 ++ ds) (one_digit n one) ∙ rw (a, b, c) refl
  | inr more ↦ elim (cases_lt n 100) [
    | inl two ↦
        let a : n / 10 / 10 ≡ 0 = omega (arith, two) in
        let b : n / 10 % 10 ≡ n / 10 = omega (arith, two) in
        ap (λ (ds : List ℕ). replicate (3 - length ds) 48 ++ ds) (two_digits n more two) ∙ rw (a, b) refl
    | inr many ↦ ap (λ (ds : List ℕ). replicate (3 - length ds) 48 ++ ds) (three_digits n many low)
  ]
]

abbrev item : ℕ → List ℕ → ℕ
item i xs = get_or xs i 0

three_same : (m n : ℕ) → m < 1000 → n < 1000 → three m ≡ three n → m ≡ n
three_same m n low small same =
    let e : glyphs (m / 10 / 10) (m / 10 % 10) (m % 10) ≡ glyphs (n / 10 / 10) (n / 10 % 10) (n % 10) = sym (three_is m low) ∙ same ∙ three_is n small in
    let a : 48 + m / 10 / 10 ≡ 48 + n / 10 / 10 = ap (item 0) e in
    let b : 48 + m / 10 % 10 ≡ 48 + n / 10 % 10 = ap (item 1) e in
    let c : 48 + m % 10 ≡ 48 + n % 10 = ap (item 2) e in
    omega (arith, a, b, c)

-- names that differ behind their first letters
behind_apart : (front : ℕ) (a b : List ℕ) (m n : ℕ) → m < 1000 → n < 1000 → (m == n) ≡ false → drop front a ≡ three m → drop front b ≡ three n → bytes_eq a b ≡ false
behind_apart front a b m n low small other one two = elim (cases_Bool (bytes_eq a b)) [
  | inl hit ↦
      let names : a ≡ b = (bytes_eq-Decides a b).0 hit in
      let same : m ≡ n = three_same m n low small (sym one ∙ ap (drop front) names ∙ two) in
      absurd (false≢true (sym other ∙ equal m n same))
  | inr miss ↦ miss
]
  where
    equal : (a b : ℕ) → a ≡ b → (a == b) ≡ true
    equal a b e = grind (arith, nat_tests)

pub function_apart : (m n : ℕ) → m < 1000 → n < 1000 → (m == n) ≡ false → bytes_eq (function_name m) (function_name n) ≡ false
function_apart m n low small other = behind_apart 1 (function_name m) (function_name n) m n low small other refl refl

pub library_apart : (m n : ℕ) → m < 1000 → n < 1000 → (m == n) ≡ false → bytes_eq (library_name m) (library_name n) ≡ false
library_apart m n low small other = behind_apart 3 (library_name m) (library_name n) m n low small other refl refl

pub program_apart : (m n : ℕ) → m < 1000 → n < 1000 → (m == n) ≡ false → bytes_eq (program_name m) (program_name n) ≡ false
program_apart m n low small other = behind_apart 4 (program_name m) (program_name n) m n low small other refl refl

pub same_name : (name : List ℕ) → bytes_eq name name ≡ true
same_name name = (bytes_eq-Decides name name).1 refl

pub object_apart : (i n : ℕ) → bytes_eq (object_name i) (function_name n) ≡ false
object_apart i n = refl

pub function_off : (n i : ℕ) → bytes_eq (function_name n) (object_name i) ≡ false
function_off n i = refl
