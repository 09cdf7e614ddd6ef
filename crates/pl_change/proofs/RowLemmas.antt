-- Rows of many names, one after the other.
use Rattle.std.proofs.Common.{◌≡◌, ℕ, List, [], ◌∷◌, ◌++◌, true, Option, Some, None, refl, sym, ◌∙◌, ap}
use Rattle.std.proofs.lemmas.List.{append-nil, append_assoc}
use Rattle.std.specs.List.{cons_option, filter_map}
use Rattle.std.specs.Prelude.{Result, Ok, Err}
use Rattle.pl_base.specs.Answers.{◌>>=◌}
use Rattle.pl_base.specs.Each.{run}
use Rattle.pl_base.specs.Files.{Files}
use Rattle.pl_folder.specs.Calls.{Calls}
use Rattle.pl_folder.specs.Seen.{Seen, Done}
use Rattle.pl_journal.specs.Parts.{Looking}
use Rattle.pl_journal.specs.declared.change.Change.{Change}
use Rattle.pl_change.specs.Answers.{Finds}
use Rattle.pl_change.specs.Undo.{added, all_pass, passes, rows_of, with_row}
use Rattle.pl_change.specs.declared.cause.Cause.{Cause}
use Rattle.pl_change.specs.declared.fault.BatchFault.{BatchFault}
use Rattle.pl_change.specs.declared.fault.BatchFault.TheVariants.{DiskFailed, NoMemory}
use Rattle.pl_change.specs.declared.fault.BatchFault.TheVariants as faults
use Rattle.pl_change.proofs.FindLemmas.{lacks, no_asking, reads_on}

abbrev pub RowOf : Type 0
RowOf = Files → List ℕ → Result (Option Change) Cause

run_more : {S A E : Type 0} (f : S → A → Result S E) (s : S) (x : A) (xs : List A) (t : Result S E) → f s x ≡ t → run f s (x ∷ xs) ≡ (t >>= λ u. run f u xs)
unfolding run
run_more f s x xs t is = ap (λ r. r >>= λ u. run f u xs) is

run_none : {S A E : Type 0} (f : S → A → Result S E) (s : S) → run f s [] ≡ Ok s
unfolding run
run_none f s = refl

-- the rows so far, and the names that are left
pub record SoFar (row : RowOf) (a b : Seen) (all left : List (List ℕ)) (rows : List Change) : Type 0 where
  pub means : a.tells ≡ true → rows_of (row a.files) all ≡ run (with_row (row a.files)) rows left
  pub calls : Calls Done Looking a b

module _ (row : RowOf) (a : Seen) (all : List (List ℕ)) where
  pub begins : (rows : List Change) → rows ≡ [] → SoFar row a a all all rows
  unfolding rows_of
  begins rows none = record { means = λ t. ap (λ (rs : List Change). run (with_row (row a.files)) rs all) (sym none); calls = no_asking a }

  module _ {b : Seen} (n : List ℕ) (rest : List (List ℕ)) (rows : List Change) (so_far : SoFar row a b all (n ∷ rest) rows) where
    here : a.tells ≡ true → row a.files n ≡ row b.files n
    here t = ap (λ f. row f n) (sym (so_far.calls.files t))

    pub goes_on : {c : Seen} (more : Option Change) → Finds (row b.files n) (λ (r : Option Change). r) (Ok more) b c → (next : List Change) → next ≡ added rows more → SoFar row a c all rest next
    goes_on more found next is = record {
      means = λ t. so_far.means t
          ∙ run_more (with_row (row a.files)) rows n rest (Ok (added rows more)) (ap (λ r. r >>= λ more. Ok (added rows more)) (here t ∙ found.means (so_far.calls.tells ∙ t)))
          ∙ ap (λ (rs : List Change). run (with_row (row a.files)) rs rest) (sym is);
      calls = reads_on so_far.calls found.calls;
    }

    pub stops_at : {c : Seen} (fault : BatchFault) → Finds (row b.files n) (λ (r : Option Change). r) (Err fault) b c → Finds (rows_of (row a.files) all) (λ (rows : List Change). rows) (Err fault) a c
    stops_at DiskFailed found = record { means = tt; calls = reads_on so_far.calls found.calls }
    stops_at NoMemory found = record { means = tt; calls = reads_on so_far.calls found.calls }
    stops_at (faults.Cause cause) found = record {
      means = λ t. so_far.means t ∙ run_more (with_row (row a.files)) rows n rest (Err cause) (ap (λ r. r >>= λ more. Ok (added rows more)) (here t ∙ found.means (so_far.calls.tells ∙ t)));
      calls = reads_on so_far.calls found.calls;
    }

    -- no memory for the row
    pub lacks_at : {c : Seen} (more : Option Change) → Finds (row b.files n) (λ (r : Option Change). r) (Ok more) b c → Finds (rows_of (row a.files) all) (λ (rows : List Change). rows) (Err NoMemory) a c
    lacks_at more found = record { means = tt; calls = lacks (reads_on so_far.calls found.calls) }

  pub ends : {b : Seen} (rows : List Change) → SoFar row a b all [] rows → Finds (rows_of (row a.files) all) (λ (rows : List Change). rows) (Ok rows) a b
  ends rows so_far = record { means = λ t. so_far.means t ∙ run_none (with_row (row a.files)) rows; calls = so_far.calls }

-- ---- names that are only looked at

pub record Passed (row : RowOf) (a b : Seen) (all left : List (List ℕ)) : Type 0 where
  pub means : a.tells ≡ true → all_pass (row a.files) all ≡ run (passes (row a.files)) tt left
  pub calls : Calls Done Looking a b

module _ (row : RowOf) (a : Seen) (all : List (List ℕ)) where
  pub pass_begins : Passed row a a all all
  unfolding all_pass
  pass_begins = record { means = λ t. refl; calls = no_asking a }

  module _ {b : Seen} (n : List ℕ) (rest : List (List ℕ)) (so_far : Passed row a b all (n ∷ rest)) where
    at_name : a.tells ≡ true → passes (row a.files) tt n ≡ passes (row b.files) tt n
    at_name t = ap (λ f. passes (row f) tt n) (sym (so_far.calls.files t))

    pub pass_goes_on : {c : Seen} → Finds (passes (row b.files) tt n) (λ (u : Unit {0}). u) (Ok tt) b c → Passed row a c all rest
    pass_goes_on found = record {
      means = λ t. so_far.means t ∙ run_more (passes (row a.files)) tt n rest (Ok tt) (at_name t ∙ found.means (so_far.calls.tells ∙ t));
      calls = reads_on so_far.calls found.calls;
    }

    pub pass_stops : {c : Seen} {Y : Type 0} (view : Y → Unit {0}) (fault : BatchFault) → Finds (passes (row b.files) tt n) (λ (u : Unit {0}). u) (Err fault) b c → Finds (all_pass (row a.files) all) view (Err fault) a c
    pass_stops view DiskFailed found = record { means = tt; calls = reads_on so_far.calls found.calls }
    pass_stops view NoMemory found = record { means = tt; calls = reads_on so_far.calls found.calls }
    pass_stops view (faults.Cause cause) found = record {
      means = λ t. so_far.means t ∙ run_more (passes (row a.files)) tt n rest (Err cause) (at_name t ∙ found.means (so_far.calls.tells ∙ t));
      calls = reads_on so_far.calls found.calls;
    }

  pub pass_ends : {b : Seen} {Y : Type 0} (y : Y) → Passed row a b all [] → Finds (all_pass (row a.files) all) (λ (z : Y). tt) (Ok y) a b
  pass_ends y so_far = record { means = λ t. so_far.means t ∙ run_none (passes (row a.files)) tt; calls = so_far.calls }

-- ---- names of which it is known what they come to

added_cons : (rows : List Change) (o : Option Change) (rest : List Change) → added rows o ++ rest ≡ rows ++ cons_option o rest
added_cons rows None rest = refl
added_cons rows (Some row) rest = append_assoc rows (row ∷ []) rest

run_found : (row : List ℕ → Result (Option Change) Cause) (found : List ℕ → Option Change) → ((n : List ℕ) → row n ≡ Ok (found n)) → (rows : List Change) (ns : List (List ℕ)) → run (with_row row) rows ns ≡ Ok (rows ++ filter_map found ns)
unfolding run
run_found row found same rows [] = ap Ok (sym (append-nil rows))
run_found row found same rows (n ∷ ns) =
    run_more (with_row row) rows n ns (Ok (added rows (found n))) (ap (λ r. r >>= λ more. Ok (added rows more)) (same n))
    ∙ run_found row found same (added rows (found n)) ns
    ∙ ap Ok (added_cons rows (found n) (filter_map found ns))

pub rows_found : (row : List ℕ → Result (Option Change) Cause) (found : List ℕ → Option Change) → ((n : List ℕ) → row n ≡ Ok (found n)) → (ns : List (List ℕ)) → rows_of row ns ≡ Ok (filter_map found ns)
unfolding rows_of
rows_found row found same ns = run_found row found same [] ns

-- one name after the other
pub next_added : (rows next : List Change) (o : Option Change) (rest whole : List Change) → next ≡ added rows o → rows ++ cons_option o rest ≡ whole → next ++ rest ≡ whole
next_added rows next o rest whole is so_far = ap (λ (rs : List Change). rs ++ rest) is ∙ added_cons rows o rest ∙ so_far
