-- Runs whose rows are done one at a time, in the order of the journal.
use Rattle.std.specs.Prelude.{ℕ, ◌+◌, Bool, false, nat_lt, List, [], ◌∷◌, ◌++◌, length, map, Result, Ok, Err}
use Rattle.std.specs.FinMap.{insert, remove}
use Rattle.std.specs.List.{list_any}
use Rattle.pl_base.specs.Answers.{◌>>=◌, unless}
use Rattle.pl_base.specs.Files.{Files}
use Rattle.pl_batch.specs.Changes.{run_meant}
use Rattle.pl_change.specs.declared.cause.Cause.{Cause}
use Rattle.pl_change.specs.declared.cause.Cause.TheVariants.{FolderTooLarge}
use Rattle.pl_batch.specs.declared.run.Run.{Run}
use Rattle.pl_folder.specs.declared.TheConstants.{STORED}
use Rattle.pl_journal.specs.declared.change.Change.{Change}
use Rattle.pl_journal.specs.declared.change.Change.TheVariants.{Put, Drop}
use Rattle.pl_weave.specs.declared.progress.Progress.{Progress}
use Rattle.pl_weave.specs.declared.progress.Progress.TheVariants.{Waits, Refused, Does}

-- the files under valid names and the cache, as they stand; what came of the runs that have finished; of the run under way how many rows are done, and those that are left; and the runs that wait. Where no row is left no run is under way
pub record Runs : Type 0 where
  pub files : Files
  pub finished : List Progress
  pub done : ℕ
  pub left : List Change
  pub waiting : List Run

-- ---- the rows of a run

-- the file of a row is longer than a folder gives
abbrev pub is_large : Change → Bool
is_large (Put name bytes) = nat_lt STORED (length bytes)
is_large (Drop name) = false

-- the rows, where a folder gives each of their files
abbrev pub storable : List Change → Result (List Change) Cause
storable rows = unless (list_any is_large rows) FolderTooLarge (Ok rows)

-- the rows that a run means of the files as they stand, or why it is refused
abbrev pub run_rows : Run → Files → Result (List Change) Cause
run_rows run files = run_meant run files >>= storable

-- ---- a run begins

abbrev pub begun_by : Files → List Progress → List Run → (List Progress → Runs) → Result (List Change) Cause → Runs
begun_by files finished runs next (Err cause) = next (finished ++ Refused cause ∷ [])
begun_by files finished runs next (Ok []) = next (finished ++ Does 0 0 ∷ [])
begun_by files finished runs next (Ok (row ∷ rows)) = record { files = files; finished = finished; done = 0; left = row ∷ rows; waiting = runs }

-- the first of these runs that has rows begins; those before it are refused or have none, and finish at once
abbrev pub begun : Files → List Progress → List Run → Runs
begun files finished [] = record { files = files; finished = finished; done = 0; left = []; waiting = [] }
begun files finished (run ∷ runs) = begun_by files finished runs (λ more. begun files more runs) (run_rows run files)

-- ---- one row

abbrev pub with_row : Files → Change → Files
with_row files (Put name bytes) = insert files name bytes
with_row files (Drop name) = remove files name

abbrev pub renamed_by : Runs → List Change → Runs
renamed_by r [] = r
renamed_by r (row ∷ []) = begun (with_row r.files row) (r.finished ++ Does (r.done + 1) (r.done + 1) ∷ []) r.waiting
renamed_by r (row ∷ more ∷ rows) = record r { files = with_row r.files row; done = r.done + 1; left = more ∷ rows }

-- the run under way does its next row; with its last it has finished, and the next one begins
abbrev pub renamed : Runs → Runs
renamed r = renamed_by r r.left

-- ---- what is told

abbrev pub under_way : Runs → List Change → List Progress
under_way r [] = []
under_way r (row ∷ rows) = Does r.done (r.done + length (row ∷ rows)) ∷ []

-- how far each run came, in their order
abbrev pub progress : Runs → List Progress
progress r = r.finished ++ under_way r r.left ++ map (λ run. Waits) r.waiting
