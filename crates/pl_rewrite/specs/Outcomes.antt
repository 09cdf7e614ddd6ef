-- What a run makes of each file, and what is made of files by it.
use Rattle.std.specs.Prelude.{◌≡◌, ⊤, ℕ, zero, suc, Bool, true, false, not, ◌&&◌, ◌||◌, List, [], ◌∷◌, ◌++◌, length, slice_get, Ok, Option, Some, None, if◌then◌else◌}
use Rattle.std.specs.List.{AllZip, cons_option}
use Rattle.pl_cone.specs.Plans as plans
use Rattle.pl_cone.specs.Plans.{RunPlan, planned}
use Rattle.pl_cone.specs.Table.{IsPlan, IsRunTable, planned_by, names_where}
use Rattle.pl_cone.specs.Taken.{files_in, is_library_entry, marked_by, names_of}
use Rattle.pl_cone.specs.declared.planning.Asked.{Asked}
use Rattle.pl_cone.specs.declared.planning.RowPlan.{RowPlan}
use Rattle.pl_cone.specs.declared.skip.Skip.{Skip}
use Rattle.pl_cone.specs.declared.skip.Skip.TheVariants as skips
use Rattle.pl_cone.specs.declared.table.RunTable.{RunTable}
use Rattle.pl_cone.specs.declared.taken.Taken.{Taken}
use Rattle.pl_elf.specs.declared.range.Range.{Range}
use Rattle.pl_form.specs.Files.{original_in}
use Rattle.pl_form.specs.declared.file.Marked.{Marked}
use Rattle.pl_form.specs.declared.version.Version.TheVariants.{Two}
use Rattle.pl_journal.specs.declared.change.Change.{Change}
use Rattle.law_sound.specs.Rule.{Files}
use Rattle.pl_rewrite.specs.Changes as changes
use Rattle.pl_rewrite.specs.Flags.{flagged}
use Rattle.pl_rewrite.specs.Libraries.{storable_library}
use Rattle.pl_rewrite.specs.Libraries as libraries
use Rattle.pl_rewrite.specs.Reports as reports
use Rattle.pl_rewrite.specs.Rows.{IsFileMeant, IsNumbered, IsWalkRow, is_library_row, walk_of}
use Rattle.pl_rewrite.specs.RowWords.{AreRowWords, is_set, own_words_at}
use Rattle.pl_rewrite.specs.Contents.{IsNewProgram, IsProgramRow, IsWork}
use Rattle.pl_rewrite.specs.declared.rewriting.MadeFiles.{MadeFiles}
use Rattle.pl_rewrite.specs.declared.rewriting.Made.{Made}
use Rattle.pl_rewrite.specs.declared.numbers.Numbered.{Numbered}
use Rattle.pl_rewrite.specs.declared.outcomes.NewLibrary.{NewLibrary}
use Rattle.pl_rewrite.specs.declared.outcomes.RowOutcome.{RowOutcome}
use Rattle.pl_rewrite.specs.declared.outcomes.RowOutcome.TheVariants as outcomes
use Rattle.pl_rewrite.specs.declared.program.Work.{Work}
use Rattle.pl_rewrite.specs.declared.rewriting.RowState.{RowState}
use Rattle.pl_rewrite.specs.declared.rewriting.RowState.TheVariants as states
use Rattle.pl_rewrite.specs.declared.row_words.Needed.{Needed}
use Rattle.pl_rewrite.specs.declared.row_words.RowWords.{RowWords}

-- ---- what a run makes of a name

abbrev pub made_in : Files → Range → RunPlan → List ℕ → Made
made_in files region p n = record {
  change = changes.change files region p n;
  state = reports.state_after files region p n;
  given = changes.is_given files region p n;
}

-- ---- what is made of a file by its outcome

abbrev pub too_large : Taken → Skip
too_large t = skips.Form t.name 6

abbrev pub current_state : Marked → RowState
current_state m = reports.state_of true m

-- the row that gives it its original
abbrev pub put_original : Taken → Option Change
put_original t = changes.put (Some t.bytes) t.name (Some (original_in t.bytes))

abbrev pub made_original : Taken → Skip → Made
made_original t cause = record { change = put_original t; state = states.Skipped cause; given = false }

abbrev pub renewed : Taken → List ℕ → RowState → Made
renewed t file state = record { change = changes.put (Some t.bytes) t.name (Some file); state = state; given = true }

abbrev pub made_with : Taken → NewLibrary → Option (List ℕ) → Made
made_with t parts None = made_original t (too_large t)
made_with t parts (Some file) = renewed t file (states.Library false parts.slot parts.stamp)

abbrev pub made_library : Taken → NewLibrary → Made
made_library t parts = made_with t parts (storable_library t parts Two)

abbrev pub made_by : Taken → RowOutcome → Made
made_by t (outcomes.Unchanged state) = record { change = None; state = state; given = false }
made_by t (outcomes.Original cause) = made_original t cause
made_by t (outcomes.Program p) = renewed t p.file.items (states.Program false p.conflicts)
made_by t (outcomes.Library parts) = made_library t parts

abbrev pub HasLibraryForm : Taken → NewLibrary → Type 0
HasLibraryForm t parts = libraries.HasForm t parts

abbrev pub MayBe : Taken → RowOutcome → Type 0
MayBe t (outcomes.Unchanged state) = ⊤
MayBe t (outcomes.Original cause) = ⊤
MayBe t (outcomes.Program p) = ⊤
MayBe t (outcomes.Library parts) = HasLibraryForm t parts

-- what is made by it is what a run makes of the file
pub record IsOutcome (files : Files) (region : Range) (p : RunPlan) (t : Taken) (o : RowOutcome) : Type 0 where
  pub may : MayBe t o
  pub meant : made_by t o ≡ made_in files region p t.name

-- ---- all files

abbrev pub MayBeAll : List Taken → List RowOutcome → Type 0
MayBeAll ts os = AllZip MayBe ts os

abbrev pub with_made : MadeFiles → List ℕ → Made → MadeFiles
with_made all n made = record {
  rows = all.rows ++ cons_option made.change [];
  states = all.states ++ record { name = n; state = made.state } ∷ [];
  given = all.given || made.given;
}

unfoldable pub made_from : MadeFiles → List Taken → List RowOutcome → MadeFiles
made_from all [] os = all
made_from all (t ∷ ts) [] = all
made_from all (t ∷ ts) (o ∷ os) = made_from (with_made all t.name (made_by t o)) ts os

abbrev pub all_made : List Taken → List RowOutcome → MadeFiles
all_made ts os = made_from (record { rows = []; states = []; given = false }) ts os

-- ---- outcomes by rows

-- one that is not made anew: it gets its original for a cause, or stays
abbrev pub kept_by : Taken → Option Skip → Option Marked → RowOutcome
kept_by t (Some cause) marked = outcomes.Original cause
kept_by t None None = outcomes.Original (too_large t)
kept_by t None (Some m) = outcomes.Unchanged (current_state m)

abbrev pub KeepsFile : Taken → Option Skip → RowOutcome → Type 0
KeepsFile t cause o = o ≡ kept_by t cause (marked_by t.entry)

-- ---- which files are made

abbrev pub is_stale : List Bool → ℕ → Bool
is_stale stale row = is_set (slice_get stale row)

abbrev pub is_library_taken : Option Taken → Bool
is_library_taken None = false
is_library_taken (Some t) = is_library_entry t.entry

abbrev pub is_library_at : Numbered → ℕ → Bool
is_library_at n row = is_library_taken (slice_get n.files.now row)

abbrev pub is_stale_program : Numbered → List Bool → ℕ → Bool
is_stale_program n stale row = is_stale stale row && not (is_library_at n row)

abbrev pub is_stale_library : Numbered → List Bool → ℕ → Bool
is_stale_library n stale row = is_stale stale row && is_library_at n row

-- the walk of a row, where that is a stale program's
abbrev pub held_by : Numbered → List Bool → ℕ → List ℕ
held_by n stale row = if is_stale_program n stale row then walk_of n row else []

-- the walk of a stale program among so many first rows holds a row
unfoldable pub is_held_before : Numbered → List Bool → ℕ → ℕ → Bool
is_held_before n stale zero row = false
is_held_before n stale (suc count) row = is_held_before n stale count row || flagged (held_by n stale count) row

-- flags of all rows tell it
pub record AreHeldBefore (n : Numbered) (stale : List Bool) (size : ℕ) (flags : List Bool) : Type 0 where
  pub count : length flags ≡ length n.files.now
  pub each : (row : ℕ) (b : Bool) → slice_get flags row ≡ Some b → b ≡ is_held_before n stale size row

abbrev pub AreHeldFlags : Numbered → List Bool → List Bool → Type 0
AreHeldFlags n stale flags = AreHeldBefore n stale (length n.files.now) flags

-- the walk of a stale program holds a row
abbrev pub is_held : Numbered → List Bool → ℕ → Bool
is_held n stale row = is_held_before n stale (length n.files.now) row

-- what the relocations of these find is needed: of stale files, and of the members of stale programs' walks
abbrev pub is_used : Numbered → List Bool → ℕ → Bool
is_used n stale row = is_stale stale row || is_held n stale row

-- a stale file's row has a walk
abbrev pub HaveWalks : Numbered → List Bool → Type 0
HaveWalks n stale = (row : ℕ) → is_stale stale row ≡ true → IsWalkRow n row

-- a flag for each row; those that are set are of rows with walks
pub record IsStaleColumn (n : Numbered) (stale : List Bool) : Type 0 where
  pub count : length stale ≡ length n.files.now
  pub walks : HaveWalks n stale

-- the files are numbered too
pub record IsStaleRun (n : Numbered) (stale : List Bool) : Type 0 where
  pub numbered : IsNumbered n
  pub column : IsStaleColumn n stale

-- ---- what is made of them

-- that the form of the file of a row is too large
abbrev pub IsTooLarge : Numbered → ℕ → Skip → Type 0
IsTooLarge n row cause = (t : Taken) → slice_get n.files.now row ≡ Some t → cause ≡ too_large t

-- the outcome of a file that is made anew: the one that is meant, or the original where there is none
abbrev pub IsMadeAt : Numbered → ℕ → RowOutcome → Type 0
IsMadeAt n row (outcomes.Program p) = (is_library_row n row ≡ false) × IsNewProgram n row Two (Some p)
IsMadeAt n row (outcomes.Original cause) = IsTooLarge n row cause × IsFileMeant n row Two None
IsMadeAt n row (outcomes.Unchanged state) = ⊥
IsMadeAt n row (outcomes.Library parts) = (is_library_row n row ≡ true) × libraries.IsNewIfAny n row (Some parts)

-- an outcome where one is asked for, and else none
abbrev pub IsIf : Bool → (RowOutcome → Type 0) → Option RowOutcome → Type 0
IsIf true P None = ⊥
IsIf true P (Some o) = P o
IsIf false P o = o ≡ None

abbrev pub IsProgramIf : Numbered → List Bool → ℕ → Option RowOutcome → Type 0
IsProgramIf n stale row o = IsIf (is_stale_program n stale row) (IsMadeAt n row) o

abbrev pub IsLibraryIf : Numbered → List Bool → ℕ → Option RowOutcome → Type 0
IsLibraryIf n stale row o = IsIf (is_stale_library n stale row) (IsMadeAt n row) o

-- of stale programs
pub record AreProgramsMade (n : Numbered) (stale : List Bool) (all : List (Option RowOutcome)) : Type 0 where
  pub count : length all ≡ length stale
  pub each : (row : ℕ) (o : Option RowOutcome) → slice_get all row ≡ Some o → IsProgramIf n stale row o

-- of stale files
pub record AreMade (n : Numbered) (stale : List Bool) (all : List (Option RowOutcome)) : Type 0 where
  pub count : length all ≡ length stale
  pub each : (row : ℕ) (o : Option RowOutcome) → slice_get all row ≡ Some o → IsIf (is_stale stale row) (IsMadeAt n row) o

-- what is asked of the rows of stale files, and of the members of stale programs' walks, is told
pub record AreToldRows (n : Numbered) (stale : List Bool) (all : List RowWords) : Type 0 where
  pub asked : Needed
  pub made : asked.made.now ≡ stale
  pub held : AreHeldFlags n stale asked.held.now
  pub told : AreRowWords n asked all

-- each stale program can be made
abbrev pub AreProgramRows : Work → List Bool → Type 0
AreProgramRows w stale = (row : ℕ) → is_stale_program w.numbered.now stale row ≡ true → IsProgramRow w row

-- with a flag for each file
pub record CanMakePrograms (w : Work) (stale : List Bool) : Type 0 where
  pub work : IsWork w
  pub count : length stale ≡ length w.numbered.now.files.now
  pub rows : AreProgramRows w stale

-- these are the own words of a row, where that is a stale library's
abbrev pub HasWordsIf : Numbered → List Bool → ℕ → List (Option ℕ) → Type 0
HasWordsIf n stale row words = is_stale_library n stale row ≡ true → words ≡ own_words_at n row

-- the own words of stale libraries are there, one row for each file
pub record HaveWords (n : Numbered) (stale : List Bool) (all : List RowWords) : Type 0 where
  pub count : length all ≡ length n.files.now
  pub each : (row : ℕ) (s : RowWords) → slice_get all row ≡ Some s → HasWordsIf n stale row s.words

-- what was made of a file; or, where nothing was, that it stays or gets its original
abbrev pub IsOutcomeFor : Taken → Option Skip → Option RowOutcome → RowOutcome → Type 0
IsOutcomeFor t cause None o = KeepsFile t cause o
IsOutcomeFor t cause (Some made) o = o ≡ made

-- one for each file
pub record AreAll (ts : List Taken) (causes : List (Option Skip)) (made : List (Option RowOutcome)) (os : List RowOutcome) : Type 0 where
  pub count : length os ≡ length ts
  pub each : (row : ℕ) (t : Taken) (c : Option Skip) (m : Option RowOutcome) (o : RowOutcome) → slice_get ts row ≡ Some t → slice_get causes row ≡ Some c → slice_get made row ≡ Some m → slice_get os row ≡ Some o → IsOutcomeFor t c m o

-- ---- the whole

-- a table with its plan
pub record IsPlannedTable (t : RunTable) (p : RowPlan) : Type 0 where
  pub asked : Asked
  pub table : IsRunTable asked.region t
  pub planned : planned (files_in t.files.now) (names_of t.files.now) asked ≡ Ok (planned_by t p)
  pub plan : IsPlan t asked p

-- each file has its outcome
abbrev pub AreOutcomes : RunTable → RowPlan → List RowOutcome → Type 0
AreOutcomes t p os = (a : Asked) → IsRunTable a.region t → IsPlan t a p → AllZip (IsOutcome (files_in t.files.now) a.region (planned_by t p)) t.files.now os

-- today's plan of files, by the columns of a plan
abbrev pub planned_of : List Taken → Asked → RowPlan → RunPlan
planned_of ts a p = record { standings = plans.standings (files_in ts) a.region (names_of ts); slots = p.slots; stale = names_where ts p.stale; stamp = p.stamp }
