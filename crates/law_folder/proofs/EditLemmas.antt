-- Commands that take files away, or put them without a mark, are safe.
use Rattle.std.proofs.Common.{◌≡◌, ℕ, ◌+◌, Bool, true, false, List, [], ◌∷◌, Option, Some, None, Ok, sym, subst, ◌∙◌, inl, inr}
use Rattle.std.specs.Prelude.{◌⊎◌, ◌&&◌, ⊤, is_some, if◌then◌else◌}
use Rattle.std.specs.FinMap.{get}
use Rattle.std.specs.List.{AllByRecursion}
use Rattle.std.proofs.lemmas.Bool.{cases_Bool, cond-false, cond-true}
use Rattle.std.proofs.lemmas.Option.{none-some}
use Rattle.pl_base.specs.Files.{Files}
use Rattle.pl_base.specs.Names.{is_valid_name}
use Rattle.pl_base.proofs.AnswerLaws.{bind_ok, refuse_ok}
use Rattle.pl_conflict.specs.Format.{format, mark_in}
use Rattle.pl_conflict.proofs.FormatLaws.{format_kept}
use Rattle.pl_folder.specs.Disk.{Name, View, same}
use Rattle.pl_folder.specs.Taken.{taken}
use Rattle.pl_journal.specs.Laws.{IsRecoverable}
use Rattle.pl_journal.specs.Meaning.{mixed, rows_for}
use Rattle.pl_journal.specs.Names.{journal}
use Rattle.pl_journal.specs.Rows.{rows_in}
use Rattle.pl_journal.specs.Spelling.{are_rows}
use Rattle.pl_journal.specs.declared.change.Change.{Change}
use Rattle.pl_journal.specs.declared.change.Change.TheVariants.{Put, Drop}
use Rattle.pl_rewrite.specs.Skipped.{skip_causes}
use Rattle.law_sound.specs.History.{IsEdit}
use Rattle.law_sound.proofs.Theorems as theorems
use Rattle.pl_batch.specs.Changes.{changes_by, changes_of, ready_by, run_meant}
use Rattle.pl_change.specs.Changes.{removal_meant, removal_of}
use Rattle.pl_change.specs.Commands.{ready, ready_for}
use Rattle.pl_change.specs.Store.{is_file, put, removed}
use Rattle.pl_change.specs.declared.cause.Cause.TheVariants as causes
use Rattle.pl_batch.specs.declared.run.Run.{Run}
use Rattle.pl_batch.specs.declared.run.Run.TheVariants.{All, UndoAll, Undo, Install}
use Rattle.law_folder.specs.Safe.{AreSafe}
use Rattle.law_folder.specs.Sound.{KeepsTheRule, named}
use Rattle.law_folder.proofs.RowLemmas.{OfUndone, fitted, marked_original, original_bare}
use Rattle.law_folder.proofs.SoundLemmas.{named_other, named_valid}

-- ---- changes that bear no mark

abbrev pub IsBare : Change → Type 0
IsBare (Put name bytes) = mark_in bytes ≡ None
IsBare (Drop name) = ⊤

some_same : (a b : List ℕ) → ◌≡◌ {A = Option (List ℕ)} (Some a) (Some b) → a ≡ b
some_same a b is = cc

mixed_bare : (i : ℕ) (rows : List Change) (keep : ℕ → Bool) (v : View) (n file : Name) → AllByRecursion IsBare rows → mixed i rows keep v n ≡ Some file → (v n ≡ Some file) ⊎ (mark_in file ≡ None)
mixed_bare i [] keep v n file bare is = inl is
mixed_bare i (Put name bytes ∷ rows) keep v n file bare is = elim (cases_Bool (keep i && same n name)) [
  | inl hit ↦ inr (subst (λ (f : List ℕ). mark_in f ≡ None) (some_same bytes file (sym (cond-true (keep i && same n name) (Some bytes) (mixed (i + 1) rows keep v n) hit) ∙ is)) bare.0)
  | inr miss ↦ mixed_bare (i + 1) rows keep v n file bare.1 (sym (cond-false (keep i && same n name) (Some bytes) (mixed (i + 1) rows keep v n) miss) ∙ is)
]
mixed_bare i (Drop name ∷ rows) keep v n file bare is = elim (cases_Bool (keep i && same n name)) [
  | inl hit ↦ absurd (none-some file (sym (cond-true (keep i && same n name) None (mixed (i + 1) rows keep v n) hit) ∙ is))
  | inr miss ↦ mixed_bare (i + 1) rows keep v n file bare.1 (sym (cond-false (keep i && same n name) None (mixed (i + 1) rows keep v n) miss) ∙ is)
]

pub named_edit : (rows : List Change) (keep : ℕ → Bool) (v : View) → AllByRecursion IsBare rows → IsEdit (format skip_causes) (named v) (named (mixed 0 rows keep v))
named_edit rows keep v bare n file there = elim (cases_Bool (is_valid_name n)) [
  | inl valid ↦ elim (mixed_bare 0 rows keep v n file bare (sym (named_valid (mixed 0 rows keep v) n valid) ∙ there)) [ inl was ↦ inl (named_valid v n valid ∙ was) | inr none ↦ inr none ]
  | inr other ↦ absurd (none-some file (sym (named_other (mixed 0 rows keep v) n other) ∙ there))
]

pub bare_safe : (rows : List Change) (v : View) → AllByRecursion IsBare rows → KeepsTheRule v → AreSafe rows v
bare_safe rows v bare rule keep = theorems.edits (format skip_causes) (format_kept skip_causes) (named v) (named (mixed 0 rows keep v)) rule (named_edit rows keep v bare)

-- ---- the rows of commands

pub undone_bare : (fs : Files) → OfUndone IsBare fs
undone_bare fs name bytes m valid there read = subst (λ (f : List ℕ). mark_in f ≡ None) (marked_original bytes m read) (original_bare bytes)

put_by : (b : Bool) (name bytes : List ℕ) → mark_in bytes ≡ None → AllByRecursion IsBare (if b then [] else Put name bytes ∷ [])
put_by true name bytes bare = tt
put_by false name bytes bare = (bare, tt)

pub put_bare : (fs : Files) (name bytes : List ℕ) → mark_in bytes ≡ None → AllByRecursion IsBare (put fs name bytes)
put_bare fs name bytes bare = put_by (is_file (taken fs name) bytes) name bytes bare

-- ---- the journal

recoverable : (fs : Files) (none : List Change) → ready fs ≡ Ok none → IsRecoverable (get fs)
unfolding ready
recoverable fs none is = (refuse_ok (is_some (rows_in (get fs journal))) causes.BadJournal (Ok []) none is).0

pub recoverable_for : (name : List ℕ) (fs : Files) (none : List Change) → ready_for name fs ≡ Ok none → IsRecoverable (get fs)
unfolding ready_for
recoverable_for name fs none is = recoverable fs none (refuse_ok (is_valid_name name) causes.BadName (ready fs) none is).1

recoverable_by : (asked : Run) (fs : Files) (none : List Change) → ready_by asked fs ≡ Ok none → IsRecoverable (get fs)
recoverable_by (All asked) fs none is = recoverable fs none is
recoverable_by UndoAll fs none is = recoverable fs none is
recoverable_by (Undo names) fs none is = recoverable fs none is
recoverable_by (Install name bytes) fs none is = recoverable_for name fs none is

-- ---- whole commands

pub run_parts : (asked : Run) (fs : Files) (rows : List Change) → run_meant asked fs ≡ Ok rows → IsRecoverable (get fs) × (changes_by fs asked ≡ Ok rows) × (are_rows (rows_for rows) ≡ true)
unfolding changes_of
run_parts asked fs rows is =
    let a = bind_ok (ready_by asked fs) (λ none. changes_of fs asked) rows is in
    let b = fitted (changes_by fs asked) rows a.2 in
    (recoverable_by asked fs a.0 a.1, b.0, b.1)

pub removal_parts : (name : List ℕ) (fs : Files) (rows : List Change) → removal_meant name fs ≡ Ok rows → IsRecoverable (get fs) × (removed fs name ≡ Ok rows) × (are_rows (rows_for rows) ≡ true)
unfolding removal_of
removal_parts name fs rows is =
    let a = bind_ok (ready_for name fs) (λ none. removal_of fs name) rows is in
    let b = fitted (removed fs name) rows a.2 in
    (recoverable_for name fs a.0 a.1, b.0, b.1)
