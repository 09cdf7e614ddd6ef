-- What a sink has got after one piece and then another.
use Rattle.std.proofs.Common.{◌≡◌, ◌≤◌, ℕ, ◌+◌, ◌-◌, List, [], ◌++◌, length, length-append, take, drop, Option, Some, None, refl, ap, ◌∙◌, sym, append_assoc, arith, length-drop}
use Rattle.std.proofs.lemmas.List.{append-nil, take-append-le}
use Rattle.std.proofs.Math.Seq.{take-add, take-append-add, take-append_seam, take-length}
use Rattle.pl_base.specs.Streams.{got_after, GotPrefix}

-- no bytes more
pub got_after-nil : (old : Option (List ℕ)) → got_after old [] ≡ old
got_after-nil None = refl
got_after-nil (Some got) = ap Some (append-nil got)

-- bytes, and then others
pub got_after-got_after : (old : Option (List ℕ)) (xs ys : List ℕ) → got_after (got_after old xs) ys ≡ got_after old (xs ++ ys)
got_after-got_after None xs ys = refl
got_after-got_after (Some got) xs ys = ap Some (simp append_assoc)

-- the first bytes, and then some of the rest
pub got_after-take : (old : Option (List ℕ)) (i n : ℕ) (bytes : List ℕ) → got_after (got_after old (take i bytes)) (take n (drop i bytes)) ≡ got_after old (take (i + n) bytes)
got_after-take old i n bytes = got_after-got_after old (take i bytes) (take n (drop i bytes)) ∙ ap (got_after old) (sym (take-add i n bytes))

-- the whole of one piece, and then a prefix of the next
pub GotPrefix-behind : (old mid new : Option (List ℕ)) (xs ys : List ℕ) → mid ≡ got_after old xs → GotPrefix mid new ys → GotPrefix old new (xs ++ ys)
GotPrefix-behind old mid new xs ys e p = (length xs + p.0, simp length-append (omega arith), p.2 ∙ ap (λ m. got_after m (take p.0 ys)) e ∙ got_after-got_after old xs (take p.0 ys) ∙ ap (got_after old) (sym (take-append-add xs ys p.0)))

-- some first bytes, and then a prefix of the rest
pub GotPrefix-rest : (old mid new : Option (List ℕ)) (i : ℕ) (bytes : List ℕ) → i ≤ length bytes → mid ≡ got_after old (take i bytes) → GotPrefix mid new (drop i bytes) → GotPrefix old new bytes
GotPrefix-rest old mid new i bytes le e p =
    let short : p.0 ≤ length (drop i bytes) = p.1 in
    (i + p.0, omega (arith, short, length-drop i bytes), p.2 ∙ ap (λ m. got_after m (take p.0 (drop i bytes))) e ∙ got_after-take old i p.0 bytes)

-- a prefix of what is written first is a prefix of the whole
pub GotPrefix-more : (old new : Option (List ℕ)) (xs ys : List ℕ) → GotPrefix old new xs → GotPrefix old new (xs ++ ys)
GotPrefix-more old new xs ys p =
    let short : p.0 ≤ length xs = p.1 in
    (p.0, simp length-append (omega arith), p.2 ∙ ap (got_after old) (sym (take-append-le p.0 xs ys short)))

-- all of them
pub GotPrefix-all : (old new : Option (List ℕ)) (xs : List ℕ) → new ≡ got_after old xs → GotPrefix old new xs
GotPrefix-all old new xs e = (length xs, omega arith, e ∙ ap (got_after old) (sym (take-length xs)))

-- none of them
pub GotPrefix-none : (old : Option (List ℕ)) (xs : List ℕ) → GotPrefix old old xs
GotPrefix-none old xs = (0, omega arith, sym (got_after-nil old))

-- what is got, with the last of the bytes still to come
pub GotPrefix-left : (old got rest bytes : List ℕ) → length rest ≤ length bytes → got ++ rest ≡ old ++ bytes → GotPrefix (Some old) (Some got) bytes
GotPrefix-left old got rest bytes le e =
    let n = length bytes - length rest in
    let sizes : length got + length rest ≡ length old + length bytes = sym (length-append got rest) ∙ ap length e ∙ length-append old bytes in
    let size : length got ≡ length old + n = omega (arith, sizes, le) in
    (n, omega arith, ap Some (sym (take-append_seam got rest) ∙ ap (take (length got)) e ∙ ap (λ m. take m (old ++ bytes)) size ∙ take-append-add old bytes n))
