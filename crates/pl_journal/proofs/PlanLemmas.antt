-- One step more, of rows and of changes.
use Rattle.std.proofs.Common.{◌≡◌, ℕ, zero, suc, true, ◌+◌, ◌<◌, List, [], ◌∷◌, ◌++◌, length, take, get_or, sym, ap, subst, ◌∙◌, arith}
use Rattle.std.proofs.lemmas.List.{take_more, length-take}
use Rattle.pl_folder.specs.Disk.{View}
use Rattle.pl_journal.specs.Leaves.{DoEdit, DoEdits}
use Rattle.pl_base.specs.Names.{IsNameLength}
use Rattle.pl_journal.specs.Meaning.{Edit, row_of, rows_for}
use Rattle.pl_journal.specs.Spelling.{are_rows, name_of}
use Rattle.pl_journal.proofs.Fields.{AllNamed}
use Rattle.pl_journal.proofs.GrammarLaws.{row_name_length, rows_fit}
use Rattle.pl_journal.specs.Phases.{AreSteps, IsStep}
use Rattle.pl_journal.specs.declared.row.Row.{Row}
use Rattle.pl_journal.specs.declared.step.Step.{Step}

more_steps : (v : View) (i : ℕ) (rows : List Row) (steps : List Step) (row : Row) (step : Step) → AreSteps v i rows steps → IsStep v (i + length rows) row step → AreSteps v i (rows ++ row ∷ []) (steps ++ step ∷ [])
more_steps v i [] [] row step are one = (subst (λ j. IsStep v j row step) (omega arith) one, tt)
more_steps v i [] (s ∷ steps) row step are one = absurd are
more_steps v i (r ∷ rows) [] row step are one = absurd are
more_steps v i (r ∷ rows) (s ∷ steps) row step are one = (are.0, more_steps v (i + 1) rows steps row step are.1 (subst (λ j. IsStep v j row step) (omega arith) one))

more_edits : (i : ℕ) (edits : List Edit) (steps : List Step) (edit : Edit) (step : Step) → DoEdits i edits steps → DoEdit (i + length edits) edit step → DoEdits i (edits ++ edit ∷ []) (steps ++ step ∷ [])
more_edits i [] [] edit step does one = (subst (λ j. DoEdit j edit step) (omega arith) one, tt)
more_edits i [] (s ∷ steps) edit step does one = absurd does
more_edits i (e ∷ edits) [] edit step does one = absurd does
more_edits i (e ∷ edits) (s ∷ steps) edit step does one = (does.0, more_edits (i + 1) edits steps edit step does.1 (subst (λ j. DoEdit j edit step) (omega arith) one))

length_taken : {A : Type 0} (xs : List A) (k : ℕ) → k < length xs → 0 + length (take k xs) ≡ k
length_taken xs k lt = omega (arith, length-take k xs, lt)

pub steps_more : (v : View) (rows : List Row) (k : ℕ) (row : Row) (steps : List Step) (step : Step) → k < length rows → row ≡ get_or rows k row → AreSteps v 0 (take k rows) steps → IsStep v k row step → AreSteps v 0 (take (k + 1) rows) (steps ++ step ∷ [])
steps_more v rows k row steps step lt is are one =
    subst (λ rs. AreSteps v 0 rs (steps ++ step ∷ [])) (sym (take_more rows k row lt ∙ ap (λ r. take k rows ++ r ∷ []) (sym is)))
    (more_steps v 0 (take k rows) steps row step are (subst (λ j. IsStep v j row step) (sym (length_taken rows k lt)) one))

pub edits_more : (edits : List Edit) (k : ℕ) (edit : Edit) (steps : List Step) (step : Step) → k < length edits → edit ≡ get_or edits k edit → DoEdits 0 (take k edits) steps → DoEdit k edit step → DoEdits 0 (take (k + 1) edits) (steps ++ step ∷ [])
edits_more edits k edit steps step lt is does one =
    subst (λ es. DoEdits 0 es (steps ++ step ∷ [])) (sym (take_more edits k edit lt ∙ ap (λ e. take k edits ++ e ∷ []) (sym is)))
    (more_edits 0 (take k edits) steps edit step does (subst (λ j. DoEdit j edit step) (sym (length_taken edits k lt)) one))

-- ---- names of rows and changes have their length

named_at : (rows : List Row) (k : ℕ) (row : Row) → AllNamed rows → k < length rows → row ≡ get_or rows k row → IsNameLength (name_of row)
named_at [] k row named lt is = absurd (omega (arith, lt))
named_at (r ∷ rows) zero row named lt is = subst (λ q. IsNameLength (name_of q)) (sym is) (row_name_length (name_of r) named.0)
named_at (r ∷ rows) (suc k) row named lt is = named_at rows k row named.1 (omega (arith, lt)) is

pub row_length : (rows : List Row) (k : ℕ) (row : Row) → are_rows rows ≡ true → k < length rows → row ≡ get_or rows k row → IsNameLength (name_of row)
row_length rows k row fine lt is = named_at rows k row (rows_fit rows fine).named lt is

change_at : (edits : List Edit) (k : ℕ) (edit : Edit) → AllNamed (rows_for edits) → k < length edits → edit ≡ get_or edits k edit → IsNameLength (name_of (row_of edit))
change_at [] k edit named lt is = absurd (omega (arith, lt))
change_at (e ∷ edits) zero edit named lt is = subst (λ q. IsNameLength (name_of (row_of q))) (sym is) (row_name_length (name_of (row_of e)) named.0)
change_at (e ∷ edits) (suc k) edit named lt is = change_at edits k edit named.1 (omega (arith, lt)) is

pub change_length : (edits : List Edit) (k : ℕ) (edit : Edit) → are_rows (rows_for edits) ≡ true → k < length edits → edit ≡ get_or edits k edit → IsNameLength (name_of (row_of edit))
change_length edits k edit fine lt is = change_at edits k edit (rows_fit (rows_for edits) fine).named lt is
