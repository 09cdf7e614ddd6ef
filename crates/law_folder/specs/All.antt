-- What a run that prelinks everything leaves in a folder.
use Rattle.std.specs.Prelude.{◌≡◌, ℕ, true, List, Ok}
use Rattle.std.specs.FinMap.{get}
use Rattle.pl_base.specs.Files.{Files}
use Rattle.pl_base.specs.Names.{is_valid_name}
use Rattle.pl_cache.specs.Spelling.{cache_bytes}
use Rattle.pl_cache.specs.declared.cache.Cache.{Cache}
use Rattle.pl_conflict.specs.Format.{Rule}
use Rattle.pl_folder.specs.Disk.{View}
use Rattle.pl_journal.specs.Meaning.{applied}
use Rattle.pl_journal.specs.declared.change.Change.{Change}
use Rattle.pl_rewrite.specs.Plans.{planned}
use Rattle.pl_rewrite.specs.Skipped.{skip_causes}
use Rattle.pl_rewrite.specs.Plans.{RunPlan}
use Rattle.pl_rewrite.specs.Changes.{from_scratch, next, next_cache}
use Rattle.pl_batch.specs.All.{asked_of}
use Rattle.pl_batch.specs.Changes.{changes_of}
use Rattle.pl_change.specs.Folder.{cache, cache_file, cache_in, valid_names}
use Rattle.pl_batch.specs.Folder.{named}
use Rattle.pl_batch.specs.declared.prelinking.Prelinking.{Prelinking}
use Rattle.pl_batch.specs.declared.run.Run.TheVariants as runs
use Rattle.law_folder.specs.Steps.{cache_or_none}

-- by the cache there is a plan of the valid names; each of these has the file that is planned, and the cache is the planned one
pub record HasNext (files : Files) (p : Prelinking) (after : View) : Type 0 where
  pub old : List ℕ
  pub found : cache_file files ≡ Ok old
  pub cached : Cache
  pub says : cache_in old ≡ Ok cached
  pub plan : RunPlan
  pub is_planned : planned (named files) (valid_names files) (asked_of p cached) ≡ Ok plan
  pub each : (n : List ℕ) → is_valid_name n ≡ true → after n ≡ next (named files) p.region plan n
  pub keeps : cache_or_none (after cache) ≡ cache_bytes (next_cache (named files) (valid_names files) p.region cached.last plan)

abbrev pub AllGivesNext : Type 0
AllGivesNext = (files : Files) (p : Prelinking) (rows : List Change) → changes_of files (runs.All p) ≡ Ok rows → HasNext files p (applied rows (get files))

-- in a folder that keeps the rule of prelinked files these are the files from scratch, of current names too
abbrev pub NextIsFromScratch : Type 0
NextIsFromScratch = (files : Files) (p : Prelinking) (after : View) (is : HasNext files p after) → Rule skip_causes (named files) → (n : List ℕ) → is_valid_name n ≡ true → after n ≡ from_scratch (named files) p.region is.plan n
