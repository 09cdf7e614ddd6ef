-- What a run that prelinks everything changes, and what it reports.
use Rattle.std.specs.Prelude.{◌≡◌, ℕ, not, true, List, [], ◌∷◌, ◌++◌, Result, Ok, if◌then◌else◌}
use Rattle.std.specs.FinMap.{get, keys}
use Rattle.std.specs.Str.{bytes_eq}
use Rattle.pl_base.specs.Answers.{◌>>=◌, because, unless}
use Rattle.pl_base.specs.Files.{Files}
use Rattle.pl_cache.specs.Spelling.{cache_bytes, is_cache}
use Rattle.pl_cache.specs.declared.cache.Cache.{Cache}
use Rattle.pl_folder.specs.Seen.{Seen}
use Rattle.pl_journal.specs.declared.change.Change.{Change}
use Rattle.pl_journal.specs.declared.change.Change.TheVariants.{Put}
use Rattle.pl_rewrite.specs.Asked.{Asked}
use Rattle.pl_rewrite.specs.PlanningFault.{PlanningFault}
use Rattle.pl_rewrite.specs.PlanningFault.TheVariants as plan
use Rattle.pl_rewrite.specs.Rewriting.{rewrite}
use Rattle.pl_rewrite.specs.declared.rewriting.Report.{Report}
use Rattle.pl_rewrite.specs.declared.rewriting.Rewritten.{Rewritten}
use Rattle.law_sound.specs.Rule as sound
use Rattle.pl_change.specs.Commands.{IsBefore}
use Rattle.pl_change.specs.Folder.{all_files, cache, cache_file, cache_in, valid_names}
use Rattle.pl_batch.specs.Folder.{are_large, named}
use Rattle.pl_change.specs.Names.{are_many}
use Rattle.pl_batch.specs.declared.all.AllMade.{AllMade}
use Rattle.pl_change.specs.declared.cause.Cause.{Cause}
use Rattle.pl_change.specs.declared.cause.Cause.TheVariants.{TooManyFiles, BadCache, FolderTooLarge, NoSlot, StampsSpent}
use Rattle.pl_change.specs.declared.fault.BatchFault.{BatchFault}
use Rattle.pl_change.specs.declared.fault.BatchFault.TheVariants as faults
use Rattle.pl_batch.specs.declared.prelinking.Prelinking.{Prelinking}

-- what a plan is asked, by the cache; it goes by the rows alone, wherever they lie
abbrev pub asked_of : Prelinking → Cache → Asked
asked_of p cache = record { rows = record { ref_ptr = (0, 0); now = cache.rows }; last = cache.last; region = p.region; share = p.share; moment = p.moment }

-- why there is no plan. No plan means a want of memory
abbrev pub of_planning : PlanningFault → Cause
of_planning (plan.NoSlot name span hole) = NoSlot name span hole
of_planning (plan.StampsSpent stamp) = StampsSpent stamp
of_planning plan.NoMemory = TooManyFiles

-- the same, as the fault of a command
abbrev pub of_plan : PlanningFault → BatchFault
of_plan (plan.NoSlot name span hole) = faults.Cause (NoSlot name span hole)
of_plan (plan.StampsSpent stamp) = faults.Cause (StampsSpent stamp)
of_plan plan.NoMemory = faults.NoMemory

-- the row of the cache; none where its bytes would not change
abbrev pub put_cache : List ℕ → List ℕ → List Change
put_cache old new = if bytes_eq old new then [] else Put cache new ∷ []

-- the cache first, then the names, ascending
abbrev pub with_cache : List ℕ → Rewritten → AllMade
with_cache old w = record { rows = put_cache old (cache_bytes w.cache) ++ w.rows; report = w.report }

-- the cache has a spelling
unfoldable pub spelled : List ℕ → Rewritten → Result AllMade Cause
spelled old w = unless (not (is_cache w.cache)) BadCache (Ok (with_cache old w))

-- by the files, their names, the bytes of the cache and what they say
unfoldable pub made_of : sound.Files → List (List ℕ) → Prelinking → List ℕ → Cache → Result AllMade Cause
made_of files ns p old cache = because of_planning (rewrite files ns (asked_of p cache)) >>= spelled old

-- the limits come after the cache
unfoldable pub made_with_cache : Files → Prelinking → List ℕ → Cache → Result AllMade Cause
made_with_cache files p old cache =
    all_files files (valid_names files) >>= λ bytes.
    unless (are_large bytes) FolderTooLarge (made_of (named files) (valid_names files) p old cache)

unfoldable pub made_of_folder : Files → Prelinking → Result AllMade Cause
made_of_folder files p = cache_file files >>= λ old. cache_in old >>= λ cache. made_with_cache files p old cache

-- what a run makes of the files of a folder, or its first cause
unfoldable pub all_made : Files → Prelinking → Result AllMade Cause
all_made files p = unless (are_many (keys files)) TooManyFiles (made_of_folder files p)

-- its rows
unfoldable pub all_changes : Files → Prelinking → Result (List Change) Cause
all_changes files p = all_made files p >>= λ made. Ok made.rows

-- its report
unfoldable pub all_reported : Files → Prelinking → Result Report Cause
all_reported files p = all_made files p >>= λ made. Ok made.report

-- an answer that was made of the report of a run over the files that a folder stands for, where it tells them
abbrev pub Reports : {X : Type 0} → (Report → X → Type 0) → Prelinking → X → Seen → Type 0
Reports Makes p answer old = old.tells ≡ true → (before : Files) → IsBefore (get old.files) before → (report : Report) × (all_reported before p ≡ Ok report) × Makes report answer
