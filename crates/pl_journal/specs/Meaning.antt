-- What a list of changes makes of a folder, and what a crash on the way may leave.
use Rattle.std.specs.Prelude.{◌≡◌, ◌⊎◌, ℕ, ◌+◌, ◌&&◌, Bool, true, false, cond, List, [], ◌∷◌, map, Some, None}
use Rattle.pl_folder.specs.Disk.{Name, View, State, same, IsWhole}
use Rattle.pl_folder.specs.Since.{Within}
use Rattle.pl_journal.specs.Names.{is_journal_name}
use Rattle.pl_journal.specs.Rows.{done, recovered}
use Rattle.pl_journal.specs.declared.row.Row.{Row}
use Rattle.pl_journal.specs.declared.row.Row.TheVariants.{Put, Drop}
use Rattle.pl_journal.specs.declared.change.Change.{Change}
use Rattle.pl_journal.specs.declared.change.Change.TheVariants.{Put as Write, Drop as Erase}

-- a change: the name gets these bytes, or is gone
abbrev pub Edit : Type 0
Edit = Change

abbrev pub row_of : Edit → Row
row_of (Write name bytes) = Put name
row_of (Erase name) = Drop name

abbrev pub rows_for : List Edit → List Row
rows_for edits = map row_of edits

-- these changes, the first of them being number i, those of `keep` being made
abbrev pub mixed : ℕ → List Edit → (ℕ → Bool) → View → View
mixed i [] keep v n = v n
mixed i (Write name bytes ∷ edits) keep v n = cond (keep i && same n name) (Some bytes) (mixed (i + 1) edits keep v n)
mixed i (Erase name ∷ edits) keep v n = cond (keep i && same n name) None (mixed (i + 1) edits keep v n)

abbrev pub applied : List Edit → View → View
applied edits v = mixed 0 edits (λ _. true) v

-- the same, the journal's own names aside
abbrev pub Agree : View → View → Type 0
Agree v w = (n : Name) → is_journal_name n ≡ false → v n ≡ w n

abbrev pub Same : View → View → Type 0
Same v w = (n : Name) → v n ≡ w n

-- With any rows of its journal done the image is the old folder with some of its own done, own names aside; and it stands for
-- what the old folder stands for.
pub record StandsFor (old v : View) : Type 0 where
  pub any : (s : ℕ → Bool) → (keep : ℕ → Bool) × Agree (done s v) (done keep old)
  pub all : Same (recovered v) (recovered old)

-- With any rows of its journal done the image is the files before with some of the changes made, own names aside; and it stands
-- for the files before or for those after.
pub record StandsBetween (before : View) (edits : List Edit) (v : View) : Type 0 where
  pub any : (s : ℕ → Bool) → (keep : ℕ → Bool) × Agree (done s v) (mixed 0 edits keep before)
  pub all : Same (recovered v) before ⊎ Same (recovered v) (applied edits before)

-- none of the journal's own names is there
abbrev pub HasNoOwn : View → Type 0
HasNoOwn v = (n : Name) → is_journal_name n ≡ true → v n ≡ None

-- The only image is what a read gives: these files, none under an own name.
pub record IsSettled (files : View) (s : State) : Type 0 where
  pub whole : IsWhole s
  pub only : Within s (Same files)
  pub no_own : HasNoOwn files
