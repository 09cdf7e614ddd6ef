-- Commands as steps of the history of a folder, with the last stamp of its cache.
use Rattle.std.specs.Prelude.{◌≡◌, ℕ, List, Option, Some, None, Result, Ok}
use Rattle.std.specs.FinMap.{get}
use Rattle.pl_base.specs.Files.{Files}
use Rattle.pl_cache.specs.Reading.{read}
use Rattle.pl_cache.specs.Spelling.{cache_bytes}
use Rattle.pl_cache.specs.declared.cache.Cache.{Cache}
use Rattle.pl_conflict.specs.Format.{format}
use Rattle.pl_folder.specs.Disk.{View}
use Rattle.pl_journal.specs.Meaning.{applied}
use Rattle.pl_journal.specs.declared.change.Change.{Change}
use Rattle.pl_rewrite.specs.Skipped.{skip_causes}
use Rattle.pl_rewrite.specs.History.{Transition}
use Rattle.law_sound.specs.Plan.{IsBounded}
use Rattle.pl_change.specs.Changes.{removal_meant}
use Rattle.pl_batch.specs.Changes.{run_meant}
use Rattle.pl_change.specs.Commands.{Meaning}
use Rattle.pl_change.specs.Folder.{cache, no_cache}
use Rattle.pl_change.specs.Replace.{replacing_meant}
use Rattle.pl_change.specs.declared.cause.Cause.{Cause}
use Rattle.pl_batch.specs.declared.run.Run.{Run}
use Rattle.law_folder.specs.Laws.{MakesBare}
use Rattle.law_folder.specs.Sound.{KeepsTheRule, named}

-- the bytes of a cache; a folder without the file has an empty one
abbrev pub cache_or_none : Option (List ℕ) → List ℕ
cache_or_none None = cache_bytes no_cache
cache_or_none (Some bytes) = bytes

-- the last stamp that the cache tells
pub record HasLast (v : View) (last : ℕ) : Type 0 where
  pub cached : Cache
  pub says : read (cache_or_none (v cache)) ≡ Ok cached
  pub is : cached.last ≡ last

-- what a command makes of a folder that keeps the rule and has this last stamp: a step to files whose cache has the last stamp of the step
abbrev pub MakesStep : {C : Type 0} → Meaning C → Type 0
MakesStep meant =
    (before : Files) (rows : List Change) (last : ℕ) → KeepsTheRule (get before) → HasLast (get before) last → meant before ≡ Ok rows → (now : ℕ) × HasLast (applied rows (get before)) now × Transition (named (get before)) (named (applied rows (get before))) last now

abbrev pub RunsMakeSteps : Type 0
RunsMakeSteps = (asked : Run) → MakesStep (run_meant asked)

abbrev pub RemovalsMakeSteps : Type 0
RemovalsMakeSteps = (name : List ℕ) → MakesStep (removal_meant name)

abbrev pub ReplacementsMakeSteps : Type 0
ReplacementsMakeSteps = (make : List ℕ → Result (List ℕ) Cause) (name : List ℕ) → MakesBare make → MakesStep (replacing_meant make name)

-- no stamp of a file or of a list is past the last one of the cache
pub record IsPastAll (v : View) : Type 0 where
  pub last : ℕ
  pub has : HasLast v last
  pub bounds : IsBounded (format skip_causes) (named v) last

-- that holds of a folder without files,
abbrev pub EmptyIsPastAll : Type 0
EmptyIsPastAll = IsPastAll (λ n. None)

-- and every command that makes steps keeps it
abbrev pub StepsKeepPastAll : Type 0 → Type 0
StepsKeepPastAll C = (meant : Meaning C) → MakesStep meant → (before : Files) (rows : List Change) → KeepsTheRule (get before) → IsPastAll (get before) → meant before ≡ Ok rows → IsPastAll (applied rows (get before))
