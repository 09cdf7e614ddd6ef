-- The meanings of a fixed program's scope are those of the loaded one's.
use Rattle.std.proofs.Common.{◌≡◌, ℕ, zero, suc, ◌+◌, ◌≤◌, true, false, List, [], ◌∷◌, ◌++◌, map, Option, Result, Ok, Err, refl, sym, ap, subst, ◌∙◌, arith, inl, inr}
use Rattle.std.specs.Prelude.{◌⊎◌, ◌==◌}
use Rattle.std.specs.List.{All, AllZip, cons_option}
use Rattle.std.proofs.lemmas.Bool.{cases_Bool}
use Rattle.std.proofs.lemmas.Bool.Decides.{nat_tests}
use Rattle.std.proofs.lemmas.List.Elements.{All-head, All-tail}
use Rattle.pl_base.specs.Memory.{Fill, Memory}
use Rattle.law_fixed.specs.Fixed.{IsMovable, KeepsItsKind, RefersWell, fixed, fixed_reloc}
use Rattle.pl_value.specs.declared.fault.LinkFault.{LinkFault}
use Rattle.pl_value.specs.declared.meaning.Meaning.{Meaning}
use Rattle.pl_tls.specs.declared.module.Module.{Module}
use Rattle.pl_value.specs.declared.word.Word.TheVariants.{Nothing}
use Rattle.pl_object.specs.declared.object.Object.{Object}
use Rattle.pl_elf.specs.declared.constants.TheConstants.{R_X86_64_NONE}
use Rattle.pl_object.specs.declared.reloc.Reloc.{Reloc}
use Rattle.pl_value.specs.Meanings.{Row, given, meaning, meanings, row, rows, rows_from}
use Rattle.pl_value.specs.declared.word.Word.{Word}
use Rattle.pl_value.specs.Linked.{copies, copy_of, put_of, words}
use Rattle.pl_base.specs.Each.{each}
use Rattle.pl_value.specs.Tls.{is_tls_kind}
use Rattle.pl_base.specs.Sums.{plus}
use Rattle.pl_value.specs.Values.{value_of}
use Rattle.pl_base.specs.Answers.{◌>>=◌}
use Rattle.law_fixed.proofs.ValueLaws.{value_kept, value_other, sum_moved}

-- ---- alike in what they write

pub record SameRow (g h : Meaning) : Type 0 where
  pub put : put_of h.start h.word ≡ put_of g.start g.word
  pub copy : (m : Memory) → copy_of m h.start h.word ≡ copy_of m g.start g.word

same_row : (g : Meaning) → SameRow g g
same_row g = record { put = refl; copy = λ m. refl }

abbrev pub SameStep : Result Meaning LinkFault → Result Meaning LinkFault → Type 0
SameStep (Ok g) (Ok h) = SameRow g h
SameStep (Ok g) (Err f) = ⊥
SameStep (Err e) (Ok h) = ⊥
SameStep (Err e) (Err f) = f ≡ e

abbrev pub SameAll : Result (List Meaning) LinkFault → Result (List Meaning) LinkFault → Type 0
SameAll (Ok gs) (Ok hs) = AllZip SameRow gs hs
SameAll (Ok gs) (Err f) = ⊥
SameAll (Err e) (Ok hs) = ⊥
SameAll (Err e) (Err f) = f ≡ e

step_same : (r : Result Meaning LinkFault) → SameStep r r
step_same (Ok g) = same_row g
step_same (Err e) = refl

all_more : (a b : Result Meaning LinkFault) (r s : Result (List Meaning) LinkFault) → SameStep a b → SameAll r s → SameAll (a >>= λ y. r >>= λ ys. Ok (y ∷ ys)) (b >>= λ y. s >>= λ ys. Ok (y ∷ ys))
all_more (Ok g) (Ok h) (Ok gs) (Ok hs) one rest = (one, rest)
all_more (Ok g) (Ok h) (Ok gs) (Err f) one rest = rest
all_more (Ok g) (Ok h) (Err e) (Ok hs) one rest = rest
all_more (Ok g) (Ok h) (Err e) (Err f) one rest = rest
all_more (Ok g) (Err f) r s one rest = absurd one
all_more (Err e) (Ok h) r s one rest = absurd one
all_more (Err e) (Err f) r s one rest = one

each_same : {A : Type 0} (f g : A → Result Meaning LinkFault) (xs ys : List A) → AllZip (λ x y. SameStep (f x) (g y)) xs ys → SameAll (each f xs) (each g ys)
unfolding each
each_same f g [] [] like = tt
each_same f g [] (y ∷ ys) like = absurd like
each_same f g (x ∷ xs) [] like = absurd like
each_same f g (x ∷ xs) (y ∷ ys) like = all_more (f x) (g y) (each f xs) (each g ys) like.0 (each_same f g xs ys like.1)

-- ---- what alike meanings write

pub words_same : (gs hs : List Meaning) → AllZip SameRow gs hs → words hs ≡ words gs
unfolding words
words_same [] [] like = refl
words_same [] (h ∷ hs) like = absurd like
words_same (g ∷ gs) [] like = absurd like
words_same (g ∷ gs) (h ∷ hs) like =
    ap (λ (o : Option Fill). cons_option o (words hs)) like.0.put ∙ ap (cons_option (put_of g.start g.word)) (words_same gs hs like.1)

pub copies_same : (m : Memory) (gs hs : List Meaning) → AllZip SameRow gs hs → copies m hs ≡ copies m gs
unfolding copies
copies_same m [] [] like = refl
copies_same m [] (h ∷ hs) like = absurd like
copies_same m (g ∷ gs) [] like = absurd like
copies_same m (g ∷ gs) (h ∷ hs) like =
    ap (λ (o : Option Fill). cons_option o (copies m hs)) (like.0.copy m) ∙ ap (cons_option (copy_of m g.start g.word)) (copies_same m gs hs like.1)

-- ---- rows

none_gives : (objects : List Object) (places : List ℕ) (modules : List Module) (m : ℕ) (r : Reloc) → r.kind == R_X86_64_NONE ≡ true → value_of objects places modules m r ≡ Ok Nothing
unfolding value_of is_tls_kind
none_gives objects places modules m r h = let e : r.kind ≡ 0 = grind (arith, nat_tests) in rw e refl

start_moved : (at : ℕ) (r : Reloc) → r.kind == R_X86_64_NONE ≡ false → plus 0 (fixed_reloc at r).address ≡ plus at r.address
unfolding fixed_reloc
start_moved at r h = rw h (sum_moved at r.address)

given_same : (at : ℕ) (ps : List ℕ) (r : Reloc) (w : Word) → (r.kind == R_X86_64_NONE ≡ false) ⊎ (w ≡ Nothing) → SameRow (given (at ∷ ps) (row 0 r) w) (given (0 ∷ ps) (row 0 (fixed_reloc at r)) w)
given_same at ps r w (inl some) = let e = start_moved at r some in record { put = ap (λ (n : ℕ). put_of n w) e; copy = λ m. ap (λ (n : ℕ). copy_of m n w) e }
given_same at ps r w (inr nothing) = record { put = rw nothing refl; copy = λ m. rw nothing refl }

-- a row of the program
own_step : (at : ℕ) (o : Object) (os : List Object) (ps : List ℕ) (modules : List Module) (r : Reloc) → All (KeepsItsKind at) o.symbols → RefersWell o.symbols r
    → SameStep (meaning (o ∷ os) (at ∷ ps) modules (row 0 r)) (meaning (fixed at o ∷ os) (0 ∷ ps) modules (row 0 (fixed_reloc at r)))
unfolding meaning
own_step at o os ps modules r all well =
    subst (λ (v : Result Word LinkFault). SameStep (value_of (o ∷ os) (at ∷ ps) modules 0 r >>= λ w. Ok (given (at ∷ ps) (row 0 r) w)) (v >>= λ w. Ok (given (0 ∷ ps) (row 0 (fixed_reloc at r)) w)))
    (sym (value_kept at o os ps modules r all well)) (of_value (value_of (o ∷ os) (at ∷ ps) modules 0 r) refl)
  where
    of_value : (v : Result Word LinkFault) → value_of (o ∷ os) (at ∷ ps) modules 0 r ≡ v → SameStep (v >>= λ w. Ok (given (at ∷ ps) (row 0 r) w)) (v >>= λ w. Ok (given (0 ∷ ps) (row 0 (fixed_reloc at r)) w))
    of_value (Err e) is = refl
    of_value (Ok w) is = given_same at ps r w (elim (cases_Bool (r.kind == R_X86_64_NONE)) [
      | inr some ↦ inl some
      | inl none ↦ inr (let e : ◌≡◌ {A = Result Word LinkFault} (Ok w) (Ok Nothing) = sym is ∙ none_gives (o ∷ os) (at ∷ ps) modules 0 r none in cc)
    ])

-- a row of another member
other_step : (at : ℕ) (o : Object) (os : List Object) (ps : List ℕ) (modules : List Module) (m : ℕ) (r : Reloc) → All (KeepsItsKind at) o.symbols → 1 ≤ m
    → SameStep (meaning (o ∷ os) (at ∷ ps) modules (row m r)) (meaning (fixed at o ∷ os) (0 ∷ ps) modules (row m r))
unfolding meaning
other_step at o os ps modules zero r all le = absurd (omega (arith, le))
other_step at o os ps modules (suc m) r all le =
    subst (λ (v : Result Word LinkFault). SameStep (value_of (o ∷ os) (at ∷ ps) modules (suc m) r >>= λ w. Ok (given (at ∷ ps) (row (suc m) r) w)) (v >>= λ w. Ok (given (0 ∷ ps) (row (suc m) r) w)))
    (sym (value_other at o os ps modules m r all)) (step_same (value_of (o ∷ os) (at ∷ ps) modules (suc m) r >>= λ w. Ok (given (at ∷ ps) (row (suc m) r) w)))

-- ---- all rows

abbrev AreSteps : ℕ → Object → List Object → List ℕ → List Module → List Row → List Row → Type 0
AreSteps at o os ps modules xs ys = AllZip (λ x y. SameStep (meaning (o ∷ os) (at ∷ ps) modules x) (meaning (fixed at o ∷ os) (0 ∷ ps) modules y)) xs ys

own_rows : (at : ℕ) (o : Object) (os : List Object) (ps : List ℕ) (modules : List Module) (rs : List Reloc) (rest : List Row) → All (KeepsItsKind at) o.symbols → All (RefersWell o.symbols) rs → AreSteps at o os ps modules rest rest
    → AreSteps at o os ps modules (map (row 0) rs ++ rest) (map (row 0) (map (fixed_reloc at) rs) ++ rest)
own_rows at o os ps modules [] rest all well others = others
own_rows at o os ps modules (r ∷ rs) rest all well others =
    (own_step at o os ps modules r all (All-head (RefersWell o.symbols) r rs well), own_rows at o os ps modules rs rest all (All-tail (RefersWell o.symbols) r rs well) others)

member_rows : (at : ℕ) (o : Object) (os : List Object) (ps : List ℕ) (modules : List Module) (m : ℕ) (rs : List Reloc) (rest : List Row) → All (KeepsItsKind at) o.symbols → 1 ≤ m → AreSteps at o os ps modules rest rest
    → AreSteps at o os ps modules (map (row m) rs ++ rest) (map (row m) rs ++ rest)
member_rows at o os ps modules m [] rest all le others = others
member_rows at o os ps modules m (r ∷ rs) rest all le others = (other_step at o os ps modules m r all le, member_rows at o os ps modules m rs rest all le others)

other_rows : (at : ℕ) (o : Object) (os : List Object) (ps : List ℕ) (modules : List Module) (m : ℕ) (some : List Object) → All (KeepsItsKind at) o.symbols → 1 ≤ m → AreSteps at o os ps modules (rows_from m some) (rows_from m some)
unfolding rows_from
other_rows at o os ps modules m [] all le = tt
other_rows at o os ps modules m (p ∷ some) all le =
    member_rows at o os ps modules m p.relocations (rows_from (m + 1) some) all le (other_rows at o os ps modules (m + 1) some all (omega (arith, le)))

-- the same words, the same copies, or the same refusal
pub meanings_same : (at : ℕ) (o : Object) (os : List Object) (ps : List ℕ) (modules : List Module) → IsMovable at o → SameAll (meanings (o ∷ os) (at ∷ ps) modules) (meanings (fixed at o ∷ os) (0 ∷ ps) modules)
unfolding meanings rows_from fixed
meanings_same at o os ps modules is =
    each_same (meaning (o ∷ os) (at ∷ ps) modules) (meaning (fixed at o ∷ os) (0 ∷ ps) modules) (rows (o ∷ os)) (rows (fixed at o ∷ os))
    (own_rows at o os ps modules o.relocations (rows_from 1 os) is.symbols is.relocations (other_rows at o os ps modules 1 os is.symbols (omega arith)))
