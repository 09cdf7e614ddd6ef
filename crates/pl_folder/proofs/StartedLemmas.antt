-- A disk that begins with some files reads as these.
use Rattle.std.proofs.Common.{◌≡◌, inl, inr, ⊎_elim, ℕ, suc, ◌+◌, ◌==◌, ◌<◌, ◌≤◌, Bool, true, false, cond, List, [], ◌∷◌, length, Option, Some, None, refl, sym, ◌∙◌, ap, subst, arith}
use Rattle.std.proofs.lemmas.Bool.{cases_Bool, cond-true, cond-false, ne_eqb}
use Rattle.std.specs.Ordering.{nat_cmp}
use Rattle.std.specs.Cmp.Lexicographic.{slice_cmp, nat_list_cmp_total}
use Rattle.std.specs.FinMap.{from_entries, get-from_entries}
use Rattle.std.specs.FinMap.Entries.{find}
use Rattle.pl_folder.specs.Disk.{Name, Content, State, IsBelow, bytes_of, kept, same}
use Rattle.pl_folder.specs.Kept.{IsKept}
use Rattle.pl_folder.specs.Replay.{contents_from, names_from, started}
use Rattle.pl_folder.proofs.KeptLemmas.{both_same, none_is_some}

abbrev pub Entry : Type 0
Entry = List ℕ × List ℕ

abbrev AtLeast : ℕ → Option ℕ → Type 0
AtLeast i None = Unit {0}
AtLeast i (Some file) = i ≤ file

later : (i : ℕ) (file : Option ℕ) → AtLeast (i + 1) file → AtLeast i file
later i None is = tt
later i (Some file) is = omega (arith, is)

bound_at : (b : Bool) (i : ℕ) (file : Option ℕ) → AtLeast i file → AtLeast i (cond b (Some i) file)
bound_at true i file is = omega arith
bound_at false i file is = is

-- the files of a list are numbered from its first number on
numbered : (i : ℕ) (es : List Entry) (n : Name) → AtLeast i (names_from i es n)
numbered i [] n = tt
numbered i (e ∷ es) n = bound_at (same n e.0) i (names_from (i + 1) es n) (later i _ (numbered (i + 1) es n))

below_at : (b : Bool) (i k : ℕ) (file : Option ℕ) → IsBelow ((i + 1) + k) file → IsBelow (i + suc k) (cond b (Some i) file)
below_at true i k file is = omega arith
below_at false i k None is = tt
below_at false i k (Some file) is = omega (arith, is)

all_below : (i : ℕ) (es : List Entry) (n : Name) → IsBelow (i + length es) (names_from i es n)
all_below i [] n = tt
all_below i (e ∷ es) n = below_at (same n e.0) i (length es) (names_from (i + 1) es n) (all_below (i + 1) es n)

-- the contents of a later file are not the first one's
past_first : (i : ℕ) (e : Entry) (es : List Entry) (file : Option ℕ) → AtLeast (i + 1) file → bytes_of (contents_from i (e ∷ es)) file ≡ bytes_of (contents_from (i + 1) es) file
past_first i e es None is = refl
past_first i e es (Some file) is = ap (λ (x : Content). Some x.bytes) (cond-false (file == i) _ _ (ne_eqb file i (λ same. omega (arith, is, same))))

pub found : (i : ℕ) (es : List Entry) (n : Name) → find (slice_cmp nat_cmp) n es ≡ bytes_of (contents_from i es) (names_from i es n)
found i [] n = refl
found i (e ∷ es) n = ⊎_elim
    (λ hit.
    cond-true (same n e.0) _ _ hit
    ∙ sym (ap (λ (x : Content). Some x.bytes) (cond-true (i == i) _ _ (grind arith)))
    ∙ ap (bytes_of (contents_from i (e ∷ es))) (sym (cond-true (same n e.0) _ _ hit)))
    (λ missed.
    cond-false (same n e.0) _ _ missed
    ∙ found (i + 1) es n
    ∙ sym (past_first i e es (names_from (i + 1) es n) (numbered (i + 1) es n))
    ∙ ap (bytes_of (contents_from i (e ∷ es))) (sym (cond-false (same n e.0) _ _ missed)))
    (cases_Bool (same n e.0))

-- a later name has another file than the first
not_first : (i : ℕ) (es : List Entry) (n : Name) (file : ℕ) → Some i ≡ Some file → names_from (i + 1) es n ≡ Some file → ⊥
not_first i es n file first is =
    let e : i ≡ file = cc in
    let later : AtLeast (i + 1) (Some file) = subst (AtLeast (i + 1)) is (numbered (i + 1) es n) in
    omega (arith, later, e)

apart : (i : ℕ) (es : List Entry) (n m : Name) (file : ℕ) → names_from i es n ≡ Some file → names_from i es m ≡ Some file → same n m ≡ true
apart i [] n m file here there = none_is_some file here
apart i (e ∷ es) n m file here there = ⊎_elim
    (λ hit. ⊎_elim
    (λ hit_too. both_same n m e.0 hit hit_too)
    (λ missed. absurd (not_first i es m file (sym (cond-true (same n e.0) _ _ hit) ∙ here) (sym (cond-false (same m e.0) _ _ missed) ∙ there)))
    (cases_Bool (same m e.0)))
    (λ missed. ⊎_elim
    (λ hit. absurd (not_first i es n file (sym (cond-true (same m e.0) _ _ hit) ∙ there) (sym (cond-false (same n e.0) _ _ missed) ∙ here)))
    (λ missed_too. apart (i + 1) es n m file (sym (cond-false (same n e.0) _ _ missed) ∙ here) (sym (cond-false (same m e.0) _ _ missed_too) ∙ there))
    (cases_Bool (same m e.0)))
    (cases_Bool (same n e.0))

unchanged_below : (es : List Entry) (keep : List Bool) (n : Name) → IsBelow (length es) (kept keep [] (names_from 0 es) n)
unchanged_below es [] n = subst (λ k. IsBelow k (names_from 0 es n)) (omega arith) (all_below 0 es n)
unchanged_below es (k ∷ keep) n = subst (λ k. IsBelow k (names_from 0 es n)) (omega arith) (all_below 0 es n)

pub started_kept : (es : List Entry) → IsKept (from_entries es) (started es).now
started_kept es = record {
  reads = λ n. get-from_entries nat_list_cmp_total es n ∙ found 0 es n;
  whole = record { below = unchanged_below es };
  apart = apart 0 es;
}
