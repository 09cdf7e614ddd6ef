-- What becomes of a folder by runs and edits, one after another, and what their rows make of it.
use Rattle.std.specs.Prelude.{◌≡◌, ◌⊎◌, ℕ, Bool, true, List, Some, Ok}
use Rattle.std.specs.Option.{option_map}
use Rattle.pl_conflict.specs.Format.{Rule, format}
use Rattle.pl_elf.specs.Kinds.{is_library}
use Rattle.pl_elf.specs.declared.range.Range.{Range}
use Rattle.pl_form.specs.Files.{marked_in, original_in}
use Rattle.pl_form.specs.declared.file.Marked.{Marked}
use Rattle.pl_journal.specs.Meaning.{applied, mixed}
use Rattle.pl_cone.specs.Plans.{planned}
use Rattle.pl_cone.specs.Skipped.{skip_causes}
use Rattle.pl_cone.specs.declared.planning.Asked.{Asked}
use Rattle.pl_cone.specs.Plans.{RunPlan}
use Rattle.pl_scope.specs.Members.{has}
use Rattle.law_sound.specs.History as sound
use Rattle.law_sound.specs.History.{IsEdit, Held}
use Rattle.law_sound.specs.Plan.{IsBounded}
use Rattle.law_sound.specs.Rule.{Files, matches, members}
use Rattle.pl_rewrite.specs.Changes.{changes, next, next_cache}
use Rattle.pl_rewrite.specs.Laws.{AreNames}
use Rattle.pl_rewrite.specs.Verify.{is_verified}

-- ---- the rows of a run

-- with all of them made each name has the run's file
abbrev pub RowsMakeTheFiles : Type 0
RowsMakeTheFiles = (files : Files) (ns : List (List ℕ)) (region : Range) (p : RunPlan) → AreNames files ns → (n : List ℕ) → applied (changes files ns region p) files n ≡ next files region p n

-- a folder that keeps the rule keeps it with any of them made, as a crash may leave it
abbrev pub RowsKeepTheRule : Type 0
RowsKeepTheRule = (files : Files) (ns : List (List ℕ)) (a : Asked) (p : RunPlan) (keep : ℕ → Bool) → AreNames files ns → planned files ns a ≡ Ok p → Rule skip_causes files → Rule skip_causes (mixed 0 (changes files ns a.region p) keep files)

-- ---- folders whoever wrote them

-- one keeps the rule in which each name that matches is verified, and so is each member of its walk
abbrev pub VerifiedKeepTheRule : Type 0
VerifiedKeepTheRule = (files : Files) → ((n m : List ℕ) → matches (format skip_causes) files n ≡ true → has (members (format skip_causes) files n) m ≡ true → is_verified files m ≡ true) → Rule skip_causes files

-- ---- histories

-- a step is a run that prelinks everything, or an edit: files are taken away, or put there without a mark. The last stamp is the cache's
abbrev pub Transition : Files → Files → ℕ → ℕ → Type 0
Transition before after last now = sound.Transition (format skip_causes) before after last now

-- the folder now, the folders before it, the newest first, and the last stamp
abbrev pub Happened : Files → List Files → ℕ → Type 0
Happened now past last = sound.Happened (format skip_causes) now past last

-- what a run makes of a folder that keeps the rule is a step
abbrev pub RunsAreSteps : Type 0
RunsAreSteps = (files : Files) (ns : List (List ℕ)) (a : Asked) (p : RunPlan) → AreNames files ns → planned files ns a ≡ Ok p → Rule skip_causes files → Transition files (next files a.region p) a.last (next_cache files ns a.region a.last p).last

-- where names get back their originals, be their files of the first version or of the second, that is an edit
abbrev pub UndoingIsEditing : Type 0
UndoingIsEditing = (files after : Files) → ((n : List ℕ) → (after n ≡ files n) ⊎ (after n ≡ option_map original_in (files n))) → IsEdit (format skip_causes) files after

-- no stamp of the folder is past the last one, and files that are taken at any moments, each at its own, keep the rule together
abbrev pub HistoriesKeepTheRule : Type 0
HistoriesKeepTheRule = (now : Files) (past : List Files) (last : ℕ) → Happened now past last → IsBounded (format skip_causes) now last × ((taken : Files) → ((n file : List ℕ) → taken n ≡ Some file → Held now past n file) → Rule skip_causes taken)

-- two library files that stood under one name at any moments, and bear one stamp, are the same
abbrev pub StampsNameFiles : Type 0
StampsNameFiles = (now : Files) (past : List Files) (last : ℕ) → Happened now past last
    → (n a b : List ℕ) (j k : Marked) → Held now past n a → Held now past n b → marked_in a ≡ Some j → marked_in b ≡ Some k
    → is_library j.object.kind ≡ true → is_library k.object.kind ≡ true → j.stamp ≡ k.stamp → a ≡ b
