-- The commands of a run are safe, and change at most one name's original.
use Rattle.std.proofs.Common.{◌≡◌, ℕ, true, false, List, Option, Some, None, Result, Ok, Err, refl, ap, ◌∙◌}
use Rattle.std.specs.FinMap.{get}
use Rattle.std.proofs.lemmas.Bool.{cond-false}
use Rattle.pl_base.specs.Answers.{◌>>=◌, because}
use Rattle.pl_base.specs.Files.{Files}
use Rattle.pl_base.proofs.AnswerLaws.{because_ok, bind_ok}
use Rattle.pl_folder.specs.Disk.{Name, View, same}
use Rattle.pl_form.specs.Files.{original_in}
use Rattle.pl_journal.specs.Meaning.{applied}
use Rattle.pl_journal.specs.declared.change.Change.{Change}
use Rattle.pl_batch.specs.Changes.{changes_of, run_meant}
use Rattle.pl_change.specs.Changes.{removal_meant}
use Rattle.pl_change.specs.Commands.{Meaning, ready_for}
use Rattle.pl_change.specs.Replace.{fixed_as, loosened_of, replacing_meant}
use Rattle.pl_batch.specs.declared.prelinking.Prelinking.{Prelinking}
use Rattle.pl_batch.specs.declared.run.Run.{Run}
use Rattle.pl_batch.specs.declared.run.Run.TheVariants as runs
use Rattle.pl_cli.specs.Load.{choice}
use Rattle.pl_cli.specs.Writes.{content, fixes, loosens, prelinks, removes, stores, undoes}
use Rattle.pl_cli.specs.Stops.{of_batch}
use Rattle.pl_words.specs.declared.command.Policy.{Policy}
use Rattle.pl_cli.specs.Cause.{Cause}
use Rattle.pl_cli.specs.Content.{Content}
use Rattle.law_folder.specs.Originals.{HasOriginal, SameOriginals, originals}
use Rattle.law_folder.specs.Safe.{IsSafe, after, changed}
use Rattle.law_folder.specs.Steps.{MakesStep}
use Rattle.law_folder.proofs.ReplaceLemmas.{fixing_bare, loosening_bare, replacements_originals, replacements_safe}
use Rattle.law_folder.proofs.StepLemmas.{removals_steps, replacements_steps, runs_steps}
use Rattle.law_folder.proofs.WholeLemmas.{removals_originals, removals_safe, runs_originals, runs_safe}
use Rattle.pl_safe.specs.Runs.{KeepsOriginals}

-- ---- safe

-- a command that has only another's changes
because_safe : {C D : Type 0} (meant : Meaning C) (other : Meaning D) → ((before : Files) (rows : List Change) → other before ≡ Ok rows → meant before ≡ Ok rows) → IsSafe meant → IsSafe other
because_safe meant other same safe = record {
  fits = λ before rows is. safe.fits before rows (same before rows is);
  ready = λ before rows is. safe.ready before rows (same before rows is);
  safe = λ before rows is rule. safe.safe before rows (same before rows is) rule;
}

run_of : (asked : Run) (before : Files) (rows : List Change) → undoes asked before ≡ Ok rows → run_meant asked before ≡ Ok rows
run_of asked before rows is = because_ok of_batch (run_meant asked before) rows is

pub all_of : (asked : Prelinking) (before : Files) (rows : List Change) → prelinks asked before ≡ Ok rows → run_meant (runs.All asked) before ≡ Ok rows
all_of asked before rows is = because_ok of_batch (run_meant (runs.All asked) before) rows is

removal_of : (name : Name) (before : Files) (rows : List Change) → removes name before ≡ Ok rows → removal_meant name before ≡ Ok rows
removal_of name before rows is = because_ok of_batch (removal_meant name before) rows is

-- what is stored is the file of the input
store_of : (name : Name) (kind : Content) (bytes : List ℕ) (before : Files) (rows : List Change) → stores name kind bytes before ≡ Ok rows → (file : List ℕ) × (run_meant (runs.Install name file) before ≡ Ok rows)
store_of name kind bytes before rows is =
    let a = bind_ok (because of_batch (ready_for name before)) (λ none. content kind bytes >>= λ file. because of_batch (changes_of before (runs.Install name file))) rows is in
    let b = bind_ok (content kind bytes) (λ file. because of_batch (changes_of before (runs.Install name file))) rows a.2 in
    let ready : ready_for name before ≡ Ok a.0 = because_ok of_batch (ready_for name before) a.0 a.1 in
    let rest : changes_of before (runs.Install name b.0) ≡ Ok rows = because_ok of_batch (changes_of before (runs.Install name b.0)) rows b.2 in
    (b.0, ap (λ r. r >>= λ none. changes_of before (runs.Install name b.0)) ready ∙ rest)

pub undo_safe : (asked : Run) → IsSafe (undoes asked)
undo_safe asked = because_safe (run_meant asked) (undoes asked) (run_of asked) (runs_safe asked)

pub prelink_safe : (asked : Prelinking) → IsSafe (prelinks asked)
prelink_safe asked = because_safe (run_meant (runs.All asked)) (prelinks asked) (all_of asked) (runs_safe (runs.All asked))

pub remove_safe : (name : Name) → IsSafe (removes name)
remove_safe name = because_safe (removal_meant name) (removes name) (removal_of name) (removals_safe name)

pub fix_safe : (policy : Policy) (name : Name) → IsSafe (fixes policy name)
fix_safe policy name =
    let make = fixed_as (choice policy) name in
    because_safe (replacing_meant make name) (fixes policy name) (λ before rows is. because_ok of_batch (replacing_meant make name before) rows is) (replacements_safe make name (fixing_bare (choice policy) name))

pub loosen_safe : (name : Name) → IsSafe (loosens name)
loosen_safe name =
    let make = loosened_of name in
    because_safe (replacing_meant make name) (loosens name) (λ before rows is. because_ok of_batch (replacing_meant make name before) rows is) (replacements_safe make name (loosening_bare name))

pub store_safe : (name : Name) (kind : Content) (bytes : List ℕ) → IsSafe (stores name kind bytes)
store_safe name kind bytes = record {
  fits = λ before rows is. let a = store_of name kind bytes before rows is in (runs_safe (runs.Install name a.0)).fits before rows a.1;
  ready = λ before rows is. let a = store_of name kind bytes before rows is in (runs_safe (runs.Install name a.0)).ready before rows a.1;
  safe = λ before rows is rule. let a = store_of name kind bytes before rows is in (runs_safe (runs.Install name a.0)).safe before rows a.1 rule;
}

-- ---- steps

-- a command that has only another's changes makes its steps
because_steps : {C D : Type 0} (meant : Meaning C) (other : Meaning D) → ((before : Files) (rows : List Change) → other before ≡ Ok rows → meant before ≡ Ok rows) → MakesStep meant → MakesStep other
because_steps meant other same steps = λ before rows last rule has is. steps before rows last rule has (same before rows is)

pub undo_steps : (asked : Run) → MakesStep (undoes asked)
undo_steps asked = because_steps (run_meant asked) (undoes asked) (run_of asked) (runs_steps asked)

pub prelink_steps : (asked : Prelinking) → MakesStep (prelinks asked)
prelink_steps asked = because_steps (run_meant (runs.All asked)) (prelinks asked) (all_of asked) (runs_steps (runs.All asked))

pub remove_steps : (name : Name) → MakesStep (removes name)
remove_steps name = because_steps (removal_meant name) (removes name) (removal_of name) (removals_steps name)

pub fix_steps : (policy : Policy) (name : Name) → MakesStep (fixes policy name)
fix_steps policy name =
    let make = fixed_as (choice policy) name in
    because_steps (replacing_meant make name) (fixes policy name) (λ before rows is. because_ok of_batch (replacing_meant make name before) rows is) (replacements_steps make name (fixing_bare (choice policy) name))

pub loosen_steps : (name : Name) → MakesStep (loosens name)
loosen_steps name =
    let make = loosened_of name in
    because_steps (replacing_meant make name) (loosens name) (λ before rows is. because_ok of_batch (replacing_meant make name before) rows is) (replacements_steps make name (loosening_bare name))

pub store_steps : (name : Name) (kind : Content) (bytes : List ℕ) → MakesStep (stores name kind bytes)
store_steps name kind bytes = λ before rows last rule has is.
    let a = store_of name kind bytes before rows is in
    runs_steps (runs.Install name a.0) before rows last rule has a.1

-- ---- originals

module _ (name : Option Name) (meant : Meaning Cause) (before : Files) (made : (rows : List Change) → meant before ≡ Ok rows → KeepsOriginals name (get before) (applied rows (get before))) where
  itself : (name : Option Name) → KeepsOriginals name (get before) (get before)
  itself None = λ n. refl
  itself (Some n) = λ m other. refl

  pub keeps : KeepsOriginals name (get before) (after meant before)
  keeps = by (meant before) refl
    where
      by : (r : Result (List Change) Cause) → meant before ≡ r → KeepsOriginals name (get before) (changed r (get before))
      by (Ok rows) is = made rows is
      by (Err cause) is = itself name

pub undo_all_keeps : (before : Files) → SameOriginals (after (undoes runs.UndoAll) before) (get before)
undo_all_keeps before = keeps None (undoes runs.UndoAll) before (λ rows is. runs_originals runs.UndoAll before rows (run_of runs.UndoAll before rows is) (λ _. true))

pub undo_keeps : (names : List Name) (before : Files) → SameOriginals (after (undoes (runs.Undo names)) before) (get before)
undo_keeps names before = keeps None (undoes (runs.Undo names)) before (λ rows is. runs_originals (runs.Undo names) before rows (run_of (runs.Undo names) before rows is) (λ _. true))

pub prelink_keeps : (asked : Prelinking) (before : Files) → SameOriginals (after (prelinks asked) before) (get before)
prelink_keeps asked before = keeps None (prelinks asked) before (λ rows is. runs_originals (runs.All asked) before rows (all_of asked before rows is) (λ _. true))

others : (name : Name) (file : Option (List ℕ)) (old new : View) → HasOriginal name file old new → (n : Name) → same n name ≡ false → originals new n ≡ originals old n
others name file old new is n other = is n ∙ cond-false (same n name) file (originals old n) other

pub store_keeps : (name : Name) (kind : Content) (bytes : List ℕ) (before : Files) → KeepsOriginals (Some name) (get before) (after (stores name kind bytes) before)
store_keeps name kind bytes before = keeps (Some name) (stores name kind bytes) before (λ rows is.
    let a = store_of name kind bytes before rows is in
    others name (Some (original_in a.0)) (get before) (applied rows (get before)) (runs_originals (runs.Install name a.0) before rows a.1))

pub remove_keeps : (name : Name) (before : Files) → KeepsOriginals (Some name) (get before) (after (removes name) before)
remove_keeps name before = keeps (Some name) (removes name) before (λ rows is. others name None (get before) (applied rows (get before)) (removals_originals name before rows (removal_of name before rows is)))

pub fix_keeps : (policy : Policy) (name : Name) (before : Files) → KeepsOriginals (Some name) (get before) (after (fixes policy name) before)
fix_keeps policy name before = keeps (Some name) (fixes policy name) before (λ rows is.
    let make = fixed_as (choice policy) name in
    let a = replacements_originals make name (fixing_bare (choice policy) name) before rows (because_ok of_batch (replacing_meant make name before) rows is) in
    others name (Some a.0) (get before) (applied rows (get before)) a.1)

pub loosen_keeps : (name : Name) (before : Files) → KeepsOriginals (Some name) (get before) (after (loosens name) before)
loosen_keeps name before = keeps (Some name) (loosens name) before (λ rows is.
    let make = loosened_of name in
    let a = replacements_originals make name (loosening_bare name) before rows (because_ok of_batch (replacing_meant make name before) rows is) in
    others name (Some a.0) (get before) (applied rows (get before)) a.1)
