-- Files and their outcomes, one after the other.
use Rattle.std.proofs.Common.{◌≡◌, ℕ, zero, suc, false, ◌+◌, ◌<◌, ◌≤◌, List, [], ◌∷◌, length, take, drop, get_or, sym, ap, subst, ◌∙◌, arith}
use Rattle.std.specs.List.{AllZip}
use Rattle.std.proofs.lemmas.List.{take_all}
use Rattle.std.proofs.lemmas.Slice.Zip.{AllZip-long}
use Rattle.pl_cone.specs.declared.taken.Taken.{Taken}
use Rattle.pl_rewrite.specs.Outcomes.{all_made, made_by, made_from, with_made}
use Rattle.pl_journal.specs.declared.change.Change.{Change}
use Rattle.pl_rewrite.specs.declared.rewriting.MadeFiles.{MadeFiles}
use Rattle.pl_rewrite.specs.declared.outcomes.RowOutcome.{RowOutcome}
use Rattle.pl_rewrite.specs.declared.rewriting.ReportRow.{ReportRow}

-- the next file, and its outcome
pub record IsNext (R : Taken → RowOutcome → Type 0) (ts : List Taken) (os : List RowOutcome) (i : ℕ) (t : Taken) (o : RowOutcome) (rest : List RowOutcome) : Type 0 where
  pub below : i < length ts
  pub at : t ≡ get_or ts i t
  pub that : o ≡ get_or os i o
  pub decided : R t o
  pub left : rest ≡ drop (suc i) os

pub next_is : (R : Taken → RowOutcome → Type 0) (ts : List Taken) (os : List RowOutcome) (i : ℕ) (t : Taken) (o : RowOutcome) (rest : List RowOutcome) → AllZip R ts os → i < length ts → t ≡ get_or ts i t → drop i os ≡ o ∷ rest → IsNext R ts os i t o rest
next_is R [] os i t o rest all lt at left = absurd (omega (arith, lt))
next_is R (x ∷ ts) [] i t o rest all lt at left = absurd all
next_is R (x ∷ ts) (y ∷ os) zero t o rest all lt at left =
    let head : y ≡ o = cc in
    let tail : os ≡ rest = cc in
    record { below = omega arith; at = at; that = sym head; decided = subst (λ (u : Taken). R u o) (sym at) (subst (R x) head all.0); left = sym tail }
next_is R (x ∷ ts) (y ∷ os) (suc i) t o rest all lt at left =
    let n = next_is R ts os i t o rest all.1 (omega (arith, lt)) at left in
    record { below = omega (arith, n.below); at = n.at; that = n.that; decided = n.decided; left = n.left }

pub more_left : (os rest : List RowOutcome) (i : ℕ) → rest ≡ drop (suc i) os → rest ≡ drop (i + 1) os
more_left os rest i left =
    let same : suc i ≡ i + 1 = omega arith in
    left ∙ ap (λ (k : ℕ). drop k os) same

-- there is an outcome of each
pub some_left : (R : Taken → RowOutcome → Type 0) (ts : List Taken) (os : List RowOutcome) (i n : ℕ) → AllZip R ts os → i < length ts → n + i ≡ length os → n ≡ 0 → ⊥
some_left R ts os i n all lt sum none = absurd (omega (arith, lt, AllZip-long R ts os all))

-- what is made of one more
pub made_next : (all : MadeFiles) (ts : List Taken) (os : List RowOutcome) (i : ℕ) (t : Taken) (o : RowOutcome) → i < length ts → length os ≡ length ts → t ≡ get_or ts i t → o ≡ get_or os i o
    → made_from all (take (i + 1) ts) (take (i + 1) os) ≡ with_made (made_from all (take i ts) (take i os)) t.name (made_by t o)
unfolding made_from
made_next all [] os i t o lt same at that = absurd (omega (arith, lt))
made_next all (x ∷ ts) [] i t o lt same at that = absurd (omega (arith, same))
made_next all (x ∷ ts) (y ∷ os) zero t o lt same at that =
    ap (λ (u : Taken). with_made all u.name (made_by u y)) (sym at) ∙ ap (λ (z : RowOutcome). with_made all t.name (made_by t z)) (sym that)
made_next all (x ∷ ts) (y ∷ os) (suc i) t o lt same at that =
    let more : suc i + 1 ≡ suc (i + 1) = omega arith in
    ap (λ (k : ℕ). made_from all (take k (x ∷ ts)) (take k (y ∷ os))) more ∙ made_next (with_made all x.name (made_by x y)) ts os i t o (omega (arith, lt)) (omega (arith, same)) at that

pub made_whole : (all : MadeFiles) (ts : List Taken) (os : List RowOutcome) (i : ℕ) → length ts ≤ i → length os ≡ length ts → made_from all (take i ts) (take i os) ≡ made_from all ts os
made_whole all ts os i le same =
    ap (λ (xs : List Taken). made_from all xs (take i os)) (take_all i ts le) ∙ ap (λ (xs : List RowOutcome). made_from all ts xs) (take_all i os (omega (arith, le, same)))

abbrev make : List Change → List ReportRow → MadeFiles
make rows states = record { rows = rows; states = states; given = false }

-- of none
pub made_begin : (rows : List Change) (states : List ReportRow) (ts : List Taken) (os : List RowOutcome) → rows ≡ [] → states ≡ [] → make rows states ≡ all_made (take 0 ts) (take 0 os)
unfolding made_from
made_begin rows states ts os none also =
    ap (λ (x : List Change). make x states) none ∙ ap (λ (x : List ReportRow). make [] x) also
