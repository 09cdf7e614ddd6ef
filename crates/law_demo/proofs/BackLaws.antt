-- Rows that are written one after the other are read back as themselves.
use Rattle.std.proofs.Common.{◌≡◌, ℕ, ◌+◌, ◌*◌, ◌≤◌, List, [], ◌∷◌, ◌++◌, length, take, map, refl, sym, ap, ◌∙◌, append_assoc, length-append, arith}
use Rattle.std.specs.List.{AllByRecursion, flat_map, range_with_len}
use Rattle.std.proofs.lemmas.List.{append-nil}
use Rattle.std.proofs.Math.Seq.{drop-append_seam}
use Rattle.pl_base.specs.Bytes.{part}
use Rattle.pl_base.proofs.WindowLaws.{part_front, part_all}

-- ---- bytes that others begin with

pub record Begins (xs bytes : List ℕ) : Type 0 where
  pub rest : List ℕ
  pub is : bytes ≡ xs ++ rest

pub begins_itself : (xs : List ℕ) → Begins xs xs
begins_itself xs = record { rest = []; is = sym (append-nil xs) }

pub begins_more : (xs ys zs : List ℕ) → Begins xs ys → Begins xs (ys ++ zs)
begins_more xs ys zs b = record { rest = b.rest ++ zs; is = ap (λ (l : List ℕ). l ++ zs) b.is ∙ append_assoc xs b.rest zs }

pub begins_front : (xs ys bytes : List ℕ) → Begins (xs ++ ys) bytes → Begins xs bytes
begins_front xs ys bytes b = record { rest = ys ++ b.rest; is = b.is ∙ append_assoc xs ys b.rest }

pub begins_through : (xs ys zs : List ℕ) → Begins xs ys → Begins ys zs → Begins xs zs
begins_through xs ys zs b c = record { rest = b.rest ++ c.rest; is = c.is ∙ ap (λ (l : List ℕ). l ++ c.rest) b.is ∙ append_assoc xs b.rest c.rest }

-- what stands behind a front
pub part_of_begins : (front xs bytes : List ℕ) → Begins (front ++ xs) bytes → part (length front) (length xs) bytes ≡ xs
part_of_begins front xs bytes b =
    ap (λ (l : List ℕ). part (length front) (length xs) l) (b.is ∙ append_assoc front xs b.rest)
    ∙ ap (take (length xs)) (drop-append_seam front (xs ++ b.rest))
    ∙ part_front 0 (length xs) xs b.rest (omega arith)
    ∙ part_all xs

pub begins_long : (xs bytes : List ℕ) → Begins xs bytes → length xs ≤ length bytes
begins_long xs bytes b = omega (arith, ap (λ (l : List ℕ). length l) b.is, length-append xs b.rest)

-- ---- rows

-- as many bytes each, read by their own bytes; the first has index k
pub rows_from : {X : Type 0} (width : ℕ) (written : X → List ℕ) (read : List ℕ → ℕ → X) (fits : X → Type 0)
    → ((x : X) → length (written x) ≡ width) → ((x : X) → fits x → read (written x) 0 ≡ x) → ((bytes : List ℕ) (at : ℕ) → read (part at width bytes) 0 ≡ read bytes at)
    → (bytes front : List ℕ) (at k : ℕ) (xs : List X) (rest : List ℕ) → bytes ≡ front ++ (flat_map written xs ++ rest) → length front ≡ at + width * k → AllByRecursion fits xs
    → map (λ i. read bytes (at + width * i)) (range_with_len k (length xs)) ≡ xs
rows_from width written read fits long back alike bytes front at k [] rest is there all = refl
rows_from {X = X} width written read fits long back alike bytes front at k (x ∷ xs) rest is there all =
    let more : List ℕ = flat_map written xs ++ rest in
    let next : bytes ≡ (front ++ written x) ++ more = is ∙ ap (λ (l : List ℕ). front ++ l) (append_assoc (written x) (flat_map written xs) rest) ∙ sym (append_assoc front (written x) more) in
    let here : part (length front) (length (written x)) bytes ≡ written x = part_of_begins front (written x) bytes (record { rest = more; is = next }) in
    let row : part (at + width * k) width bytes ≡ written x = ap (λ (n : ℕ). part n width bytes) (sym there) ∙ ap (λ (n : ℕ). part (length front) n bytes) (sym (long x)) ∙ here in
    let first : read bytes (at + width * k) ≡ x = sym (alike bytes (at + width * k)) ∙ ap (λ (r : List ℕ). read r 0) row ∙ back x all.0 in
    let further : length (front ++ written x) ≡ at + width * (k + 1) = omega (arith, length-append front (written x), long x, there) in
    let others : map (λ i. read bytes (at + width * i)) (range_with_len (k + 1) (length xs)) ≡ xs = rows_from width written read fits long back alike bytes (front ++ written x) at (k + 1) xs rest next further all.1 in
    ap (λ (y : X). y ∷ map (λ i. read bytes (at + width * i)) (range_with_len (k + 1) (length xs))) first ∙ ap (λ (ys : List X). x ∷ ys) others

-- behind a front, the first of index 0
pub rows_back : {X : Type 0} (width : ℕ) (written : X → List ℕ) (read : List ℕ → ℕ → X) (fits : X → Type 0)
    → ((x : X) → length (written x) ≡ width) → ((x : X) → fits x → read (written x) 0 ≡ x) → ((bytes : List ℕ) (at : ℕ) → read (part at width bytes) 0 ≡ read bytes at)
    → (bytes front : List ℕ) (at : ℕ) (xs : List X) → Begins (front ++ flat_map written xs) bytes → length front ≡ at → AllByRecursion fits xs
    → map (λ i. read bytes (at + width * i)) (range_with_len 0 (length xs)) ≡ xs
rows_back width written read fits long back alike bytes front at xs b there all =
    rows_from width written read fits long back alike bytes front at 0 xs b.rest (b.is ∙ append_assoc front (flat_map written xs) b.rest) (omega (arith, there)) all

pub rows_long : {X : Type 0} (width : ℕ) (written : X → List ℕ) → ((x : X) → length (written x) ≡ width) → (xs : List X) → length (flat_map written xs) ≡ width * length xs
rows_long width written long [] = omega arith
rows_long width written long (x ∷ xs) = omega (arith, length-append (written x) (flat_map written xs), long x, rows_long width written long xs)
