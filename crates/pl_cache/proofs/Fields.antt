-- A field that is read is the field that was written, and what was written is read again.
use Rattle.std.proofs.Common.{◌≡◌, ℕ, zero, suc, ◌^◌, ◌<◌, ◌≤◌, Bool, true, false, cond, ltb, List, [], ◌∷◌, ◌++◌, length, take, drop, Result, Ok, Err, refl, sym, ap, subst, ◌∙◌, append_assoc, arith}
use Rattle.std.specs.Prelude.{if◌then◌else◌}
use Rattle.std.proofs.lemmas.Bool.{ltb-false, le-ltb}
use Rattle.std.proofs.lemmas.List.{take_at, drop_at, take-append-drop, length-append, length-take}
use Rattle.std.specs.List.{flat_map}
use Rattle.std.proofs.lemmas.List.Concat.{flat_map-cons}
use Rattle.pl_base.specs.Answers.{◌>>=◌}
use Rattle.pl_base.specs.Bytes.{IsBytes, word32, word64, bytes32, bytes64}
use Rattle.pl_base.specs.Names.{is_valid_name}
use Rattle.pl_base.proofs.AnswerLaws.{bind_ok, ok_same}
use Rattle.pl_base.proofs.WordLaws.{is_bytes_drop, bytes32_word, bytes64_word, length_bytes32, length_bytes64, word32_back, word64_back}
use Rattle.pl_slots.specs.declared.slot.Slot.{Slot}
use Rattle.pl_cache.specs.declared.fault.CacheFault.{CacheFault}
use Rattle.pl_cache.specs.declared.fault.CacheFault.TheVariants.{BadCache}
use Rattle.pl_cache.specs.Spelling.{name_bytes, row_bytes}
use Rattle.pl_cache.specs.Reading.{number32_at, number64_at, name_of_size, name_at, row_at, rows_at}

-- a test that did not fail
pub guard_ok : {A : Type 0} (b : Bool) (d : CacheFault) (x y : A) → cond b (Err d) (Ok x) ≡ Ok y → (b ≡ false) × (x ≡ y)
guard_ok true d x y e = absurd cc
guard_ok false d x y e = (refl, cc)

-- and one that passed
pub passed : {A : Type 0} (b : Bool) (d : CacheFault) (x y : A) → cond b (Ok x) (Err d) ≡ Ok y → (b ≡ true) × (x ≡ y)
passed true d x y e = (refl, cc)
passed false d x y e = absurd cc

-- a test in front of another step
pub guard_then : {A : Type 0} (b : Bool) (d : CacheFault) (r : Result A CacheFault) (y : A) → cond b (Err d) r ≡ Ok y → (b ≡ false) × (r ≡ Ok y)
guard_then true d r y e = absurd cc
guard_then false d r y e = (refl, e)

-- what a reader took from the front
pub record Takes (bytes text rest : List ℕ) : Type 0 where
  pub parts : bytes ≡ text ++ rest
  pub rest_fits : IsBytes rest

pub Takes-then : (a x b y c : List ℕ) → Takes a x b → Takes b y c → Takes a (x ++ y) c
Takes-then a x b y c p q = record { parts = p.parts ∙ ap (λ (t : List ℕ). x ++ t) q.parts ∙ sym (append_assoc x y c); rest_fits = q.rest_fits }

-- ---- numbers

pub number32_takes : (bytes : List ℕ) (x : ℕ × List ℕ) → IsBytes bytes → number32_at bytes ≡ Ok x → Takes bytes (bytes32 x.0) x.1
unfolding number32_at
number32_takes bytes x fits e =
    let g = guard_ok (ltb (length bytes) 4) BadCache (word32 0 bytes, drop 4 bytes) x e in
    let long : 4 ≤ length bytes = ltb-false _ _ g.0 in
    let front : bytes32 (word32 0 bytes) ≡ take 4 bytes = bytes32_word 0 bytes (omega (arith, long)) fits in
    subst (λ (y : ℕ × List ℕ). Takes bytes (bytes32 y.0) y.1) g.1 (record { parts = rw front (sym (take-append-drop 4 bytes)); rest_fits = is_bytes_drop 4 bytes fits })

pub number32_again : (n : ℕ) (rest : List ℕ) → n < 2 ^ 32 → number32_at (bytes32 n ++ rest) ≡ Ok (n, rest)
unfolding number32_at
number32_again n rest lt =
    let long : ltb (length (bytes32 n ++ rest)) 4 ≡ false = le-ltb _ _ (omega (arith, length-append (bytes32 n) rest, length_bytes32 n)) in
    rw (long, word32_back n rest lt, drop_at (bytes32 n) rest 4 (length_bytes32 n)) refl

pub number64_takes : (bytes : List ℕ) (x : ℕ × List ℕ) → IsBytes bytes → number64_at bytes ≡ Ok x → Takes bytes (bytes64 x.0) x.1
unfolding number64_at
number64_takes bytes x fits e =
    let g = guard_ok (ltb (length bytes) 8) BadCache (word64 0 bytes, drop 8 bytes) x e in
    let long : 8 ≤ length bytes = ltb-false _ _ g.0 in
    let front : bytes64 (word64 0 bytes) ≡ take 8 bytes = bytes64_word 0 bytes (omega (arith, long)) fits in
    subst (λ (y : ℕ × List ℕ). Takes bytes (bytes64 y.0) y.1) g.1 (record { parts = rw front (sym (take-append-drop 8 bytes)); rest_fits = is_bytes_drop 8 bytes fits })

pub number64_again : (n : ℕ) (rest : List ℕ) → n < 2 ^ 64 → number64_at (bytes64 n ++ rest) ≡ Ok (n, rest)
unfolding number64_at
number64_again n rest lt =
    let long : ltb (length (bytes64 n ++ rest)) 8 ≡ false = le-ltb _ _ (omega (arith, length-append (bytes64 n) rest, length_bytes64 n)) in
    rw (long, word64_back n rest lt, drop_at (bytes64 n) rest 8 (length_bytes64 n)) refl

-- ---- names

IsBytes-rest : (b : ℕ) (bytes : List ℕ) → IsBytes (b ∷ bytes) → IsBytes bytes
IsBytes-rest b bytes h i = h (suc i)

name_takes : (bytes : List ℕ) (x : List ℕ × List ℕ) → IsBytes bytes → name_at bytes ≡ Ok x → Takes bytes (name_bytes x.0) x.1
unfolding name_at name_of_size
name_takes [] x fits e = absurd cc
name_takes (size ∷ rest) x fits e =
    let g = guard_then (ltb (length rest) size) BadCache (if is_valid_name (take size rest) then Ok (take size rest, drop size rest) else Err BadCache) x e in
    let long : size ≤ length rest = ltb-false _ _ g.0 in
    let p = passed (is_valid_name (take size rest)) BadCache (take size rest, drop size rest) x g.1 in
    let len : length (take size rest) ≡ size = omega (arith, length-take size rest) in
    let parts : size ∷ rest ≡ length (take size rest) ∷ (take size rest ++ drop size rest) = rw (len, take-append-drop size rest) refl in
    subst (λ (y : List ℕ × List ℕ). Takes (size ∷ rest) (name_bytes y.0) y.1) p.1 (record { parts = parts; rest_fits = is_bytes_drop size rest (IsBytes-rest size rest fits) })

name_again : (name rest : List ℕ) → is_valid_name name ≡ true → name_at (name_bytes name ++ rest) ≡ Ok (name, rest)
unfolding name_at name_of_size
name_again name rest valid =
    let long : ltb (length (name ++ rest)) (length name) ≡ false = le-ltb _ _ (omega (arith, length-append name rest)) in
    rw (long, take_at name rest (length name) refl, drop_at name rest (length name) refl, valid) refl

-- ---- rows

row_takes : (bytes : List ℕ) (x : Slot × List ℕ) → IsBytes bytes → row_at bytes ≡ Ok x → Takes bytes (row_bytes x.0) x.1
unfolding row_at
row_takes bytes x fits e =
    let a = bind_ok (name_at bytes) (λ name. number64_at name.1 >>= λ start. number64_at start.1 >>= λ span. Ok (record { name = name.0; start = start.0; span = span.0 }, span.1)) x e in
    let b = bind_ok (number64_at a.0.1) (λ start. number64_at start.1 >>= λ span. Ok (record { name = a.0.0; start = start.0; span = span.0 }, span.1)) x a.2 in
    let c = bind_ok (number64_at b.0.1) (λ span. Ok (record { name = a.0.0; start = b.0.0; span = span.0 }, span.1)) x b.2 in
    let t0 = name_takes bytes a.0 fits a.1 in
    let t1 = number64_takes a.0.1 b.0 t0.rest_fits b.1 in
    let t2 = number64_takes b.0.1 c.0 t1.rest_fits c.1 in
    let t01 = Takes-then bytes (name_bytes a.0.0) a.0.1 (bytes64 b.0.0) b.0.1 t0 t1 in
    let t02 = Takes-then bytes (name_bytes a.0.0 ++ bytes64 b.0.0) b.0.1 (bytes64 c.0.0) c.0.1 t01 t2 in
    let made : Slot × List ℕ = (record { name = a.0.0; start = b.0.0; span = c.0.0 }, c.0.1) in
    subst (λ (y : Slot × List ℕ). Takes bytes (row_bytes y.0) y.1) (ok_same made x c.2) t02

-- what a row's test says of its numbers
pub record RowFits (slot : Slot) : Type 0 where
  pub valid : is_valid_name slot.name ≡ true
  pub start : slot.start < 2 ^ 64
  pub span : slot.span < 2 ^ 64

row_again : (slot : Slot) (rest : List ℕ) → RowFits slot → row_at (row_bytes slot ++ rest) ≡ Ok (slot, rest)
unfolding row_at
row_again slot rest fits =
    let regrouped : row_bytes slot ++ rest ≡ name_bytes slot.name ++ (bytes64 slot.start ++ (bytes64 slot.span ++ rest)) =
    append_assoc (name_bytes slot.name ++ bytes64 slot.start) (bytes64 slot.span) rest ∙ append_assoc (name_bytes slot.name) (bytes64 slot.start) (bytes64 slot.span ++ rest) in
    ap row_at regrouped ∙ rw (name_again slot.name (bytes64 slot.start ++ (bytes64 slot.span ++ rest)) fits.valid, number64_again slot.start (bytes64 slot.span ++ rest) fits.start, number64_again slot.span rest fits.span) refl

pub rows_take : (n : ℕ) (bytes : List ℕ) (x : List Slot × List ℕ) → IsBytes bytes → rows_at n bytes ≡ Ok x → Takes bytes (flat_map row_bytes x.0) x.1 × (length x.0 ≡ n)
unfolding rows_at
rows_take zero bytes x fits e =
    subst (λ (y : List Slot × List ℕ). Takes bytes (flat_map row_bytes y.0) y.1 × (length y.0 ≡ 0)) (ok_same ([], bytes) x e) (record { parts = refl; rest_fits = fits }, refl)
rows_take (suc n) bytes x fits e =
    let a = bind_ok (row_at bytes) (λ first. rows_at n first.1 >>= λ others. Ok (first.0 ∷ others.0, others.1)) x e in
    let b = bind_ok (rows_at n a.0.1) (λ others. Ok (a.0.0 ∷ others.0, others.1)) x a.2 in
    let first = row_takes bytes a.0 fits a.1 in
    let second = rows_take n a.0.1 b.0 first.rest_fits b.1 in
    let both = Takes-then bytes (row_bytes a.0.0) a.0.1 (flat_map row_bytes b.0.0) b.0.1 first second.0 in
    let made : List Slot × List ℕ = (a.0.0 ∷ b.0.0, b.0.1) in
    subst (λ (y : List Slot × List ℕ). Takes bytes (flat_map row_bytes y.0) y.1 × (length y.0 ≡ suc n)) (ok_same made x b.2) (rw flat_map-cons both, ap suc second.1)

abbrev pub all_fit : List Slot → Type 0
all_fit [] = Unit {0}
all_fit (slot ∷ slots) = RowFits slot × all_fit slots

pub rows_again : (slots : List Slot) (rest : List ℕ) → all_fit slots → rows_at (length slots) (flat_map row_bytes slots ++ rest) ≡ Ok (slots, rest)
unfolding rows_at
rows_again [] rest fits = refl
rows_again (slot ∷ slots) rest fits =
    let regrouped : flat_map row_bytes (slot ∷ slots) ++ rest ≡ row_bytes slot ++ (flat_map row_bytes slots ++ rest) = ap (λ (x : List ℕ). x ++ rest) (flat_map-cons row_bytes slot slots) ∙ append_assoc (row_bytes slot) (flat_map row_bytes slots) rest in
    ap (rows_at (suc (length slots))) regrouped ∙ rw (row_again slot (flat_map row_bytes slots ++ rest) fits.0, rows_again slots rest fits.1) refl
