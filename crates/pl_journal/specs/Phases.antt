-- The phases between two settled folders, by what a crash in them leaves.
use Rattle.std.specs.Prelude.{◌≡◌, ◌⊎◌, ℕ, ◌+◌, ◌≤◌, ltb, Bool, true, false, cond, List, [], ◌∷◌, Some, None, is_some}
use Rattle.pl_folder.specs.Disk.{Name, View, State, same, names_of, read, IsWhole}
use Rattle.pl_folder.specs.Since.{Within}
use Rattle.pl_journal.specs.Names.{beside, is_journal_name, journal, journal_new}
use Rattle.pl_journal.specs.Rows.{done_from}
use Rattle.pl_journal.specs.declared.row.Row.{Row}
use Rattle.pl_journal.specs.declared.row.Row.TheVariants.{Put, Drop}
use Rattle.pl_journal.specs.Meaning.{Edit, Agree, Same}
use Rattle.pl_journal.specs.declared.change.Change.TheVariants.{Put as Write, Drop as Erase}
use Rattle.pl_journal.specs.FileNames.{name_text}
use Rattle.pl_journal.specs.declared.step.Step.{Step}
use Rattle.pl_journal.specs.declared.step.Step.TheVariants.{Put as PutStep, Drop as DropStep, Skip}

-- staging: only own names differ from the files before, and there is no journal
pub record Untouched (before v : View) : Type 0 where
  pub agree : Agree v before
  pub no_journal : v journal ≡ None

abbrev pub with_bytes : Name → List ℕ → View → View
with_bytes name bytes v n = cond (same n name) (Some bytes) (v n)

-- the files of the changes from number i on, under the names beside
abbrev pub staged : ℕ → List Edit → View → View
staged i [] v n = v n
staged i (Write name bytes ∷ edits) v n = with_bytes (beside i) bytes (staged (i + 1) edits v) n
staged i (Erase name ∷ edits) v n = staged (i + 1) edits v n

-- all is staged
abbrev pub all_staged : List Edit → List ℕ → View → View
all_staged edits bytes v = with_bytes journal_new bytes (staged 0 edits v)

-- one name's file under another
abbrev pub shifted : Name → Name → View → View
shifted from to v n = cond (same n to) (v from) (cond (same n from) None (v n))

-- w is what a crash between two rows, each a rename or a removal, may leave of v: any of them done, the others not
pub record Midway (v : View) (rows : List Row) (w : View) : Type 0 where
  pub keep : ℕ → Bool
  pub done : Same w (done_from 0 rows keep v)

-- and none from row k on
pub record Underway (v : View) (rows : List Row) (k : ℕ) (w : View) : Type 0 where
  pub keep : ℕ → Bool
  pub later : (j : ℕ) → k ≤ j → keep j ≡ false
  pub done : Same w (done_from 0 rows keep v)

-- row k of the list is this one, where the first is row i
abbrev pub RowAt : ℕ → List Row → ℕ → Row → Type 0
RowAt i [] k row = ⊥
RowAt i (r ∷ rows) k row = ((i ≡ k) × (r ≡ row)) ⊎ RowAt (i + 1) rows k row

-- one name is beside row k, the other is the row's
abbrev pub IsPut : View → ℕ → Name → Name → Name → Type 0
IsPut v k name from to = (from ≡ beside k) × (to ≡ name) × (is_some (v (beside k)) ≡ true)

-- what does row k of the folder's journal
abbrev pub IsStep : View → ℕ → Row → Step → Type 0
IsStep v k (Put name) (PutStep from to) = IsPut v k name (name_text from) (name_text to)
IsStep v k (Put name) (DropStep n) = ⊥
IsStep v k (Put name) Skip = v (beside k) ≡ None
IsStep v k (Drop name) (PutStep from to) = ⊥
IsStep v k (Drop name) (DropStep n) = name_text n ≡ name
IsStep v k (Drop name) Skip = ⊥

abbrev pub AreSteps : View → ℕ → List Row → List Step → Type 0
AreSteps v i [] [] = Unit {0}
AreSteps v i [] (step ∷ steps) = ⊥
AreSteps v i (row ∷ rows) [] = ⊥
AreSteps v i (row ∷ rows) (step ∷ steps) = IsStep v i row step × AreSteps v (i + 1) rows steps

-- no row that puts has its file beside
abbrev pub Gone : ℕ → List Row → View → Type 0
Gone i [] v = Unit {0}
Gone i (Put name ∷ rows) v = (v (beside i) ≡ None) × Gone (i + 1) rows v
Gone i (Drop name ∷ rows) v = Gone (i + 1) rows v

-- all rows are done, and own names go
pub record Clearing (v : View) (rows : List Row) (w : View) : Type 0 where
  pub agree : Agree w (done_from 0 rows (λ _. true) v)
  pub gone : Gone 0 rows w
  pub journal_goes : (w journal ≡ None) ⊎ (w journal ≡ v journal)

-- each file under an own name is firm
abbrev pub OwnAreFirm : State → Type 0
OwnAreFirm s = (n : Name) → is_journal_name n ≡ true → (file : ℕ) → names_of s n ≡ Some file → (s.files file).is_firm ≡ true

-- between two files: what is staged is firm
pub record IsStaging (before : View) (r : View) (s : State) : Type 0 where
  pub whole : IsWhole s
  pub firm : OwnAreFirm s
  pub within : Within s (Untouched before)
  pub reads : Same (read s) r

-- settled, and so all is firm
pub record IsStaged (before : View) (r : View) (s : State) : Type 0 where
  pub whole : IsWhole s
  pub firm : (file : ℕ) → (s.files file).is_firm ≡ true
  pub only : Within s (λ v. Untouched before v × Same v r)
  pub reads : Same (read s) r

-- the journal has its name, and is to be settled
pub record IsCommitting (before : View) (r : View) (s : State) : Type 0 where
  pub whole : IsWhole s
  pub within : Within s (λ v. Untouched before v ⊎ Same v (shifted journal_new journal r))
  pub reads : Same (read s) (shifted journal_new journal r)

pub record IsDoing (v : View) (rows : List Row) (k : ℕ) (s : State) : Type 0 where
  pub whole : IsWhole s
  pub firm : (file : ℕ) → (s.files file).is_firm ≡ true
  pub within : Within s (Underway v rows k)
  pub reads : Same (read s) (done_from 0 rows (λ j. ltb j k) v)

pub record IsClearing (v : View) (rows : List Row) (s : State) : Type 0 where
  pub whole : IsWhole s
  pub within : Within s (Clearing v rows)

-- the journal has its name, or not yet
abbrev pub Committing : View → View → List Row → View → Type 0
Committing before r rows w = Untouched before w ⊎ Midway (shifted journal_new journal r) rows w

abbrev pub Finishing : View → List Row → View → Type 0
Finishing v rows w = Midway v rows w ⊎ Clearing v rows w

-- all rows done, and no journal
abbrev pub finished : View → List Row → View
finished v rows n = cond (same n journal) None (done_from 0 rows (λ _. true) v n)
