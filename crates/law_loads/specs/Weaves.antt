-- The history of a weave's folder, and the files that its loaders saw.
use Rattle.std.specs.Prelude.{◌≡◌, ◌⊎◌, ℕ, List, [], ◌∷◌, Option, Some, slice_get, None, Result, if◌then◌else◌}
use Rattle.std.specs.FinMap.{get}
use Rattle.std.specs.Str.{bytes_eq}
use Rattle.pl_base.specs.Files.{Files}
use Rattle.pl_change.specs.Copied.{kept}
use Rattle.pl_batch.specs.declared.run.Run.{Run}
use Rattle.pl_base.specs.Answers.{because}
use Rattle.pl_conflict.specs.Format.{is_fast}
use Rattle.law_folder.specs.Sound.{KeepsTheRule}
use Rattle.law_folder.specs.Steps.{IsPastAll}
use Rattle.pl_rewrite.specs.Skipped.{skip_causes}
use Rattle.pl_loader.specs.declared.fault.LoadFault.{LoadFault}
use Rattle.law_loads.specs.LoadingFolder.{loading_folder}
use Rattle.law_loads.specs.Paths.{GivesFrom, SameAnswer, ordinary_load}
use Rattle.pl_place.specs.Policy.{Choice}
use Rattle.pl_rewrite.specs.History.{Happened}
use Rattle.pl_script.specs.declared.script.Event.{Event}
use Rattle.law_sound.specs.History.{Held}
use Rattle.law_sound.specs.Rule as sound
use Rattle.pl_loader.specs.Given.{given_from}
use Rattle.pl_weave.specs.Opening.{HasSeen, Opened, ended, wanted}
use Rattle.pl_weave.specs.Weaving.{Weaving, woven}
use Rattle.pl_weave.specs.declared.seen.Seen.{Seen}

-- the file that was seen under a name, where one was: so the files that a loader saw are those of a folder
abbrev pub file_seen : List Seen → List ℕ → Option (List ℕ)
file_seen [] n = None
file_seen (s ∷ seen) n = if bytes_eq n s.name then s.file else file_seen seen n

-- these bytes were seen under this name
abbrev pub SawFile : List Seen → List ℕ → List ℕ → Type 0
SawFile [] n bytes = ⊥
SawFile (s ∷ seen) n bytes = ((s.name ≡ n) × (s.file ≡ Some bytes)) ⊎ SawFile seen n bytes

-- a history of runs and edits in which each file that a loader saw was held at some moment
pub record HasHistory (w : Weaving) : Type 0 where
  pub now : sound.Files
  pub past : List sound.Files
  pub last : ℕ
  pub happened : Happened now past last
  pub held : (k : ℕ) (o : Opened (Unit {0})) (n bytes : List ℕ) → slice_get w.loaders k ≡ Some o → SawFile o.seen n bytes → Held now past n bytes

-- From files that keep the rule, and whose cache's last stamp no stamp is past, a weave has such a history, whatever its events are.
abbrev pub WovenHaveAHistory : Type 0
WovenHaveAHistory = (choose : Choice) (files : Files) (names : List (List ℕ)) (runs : List Run) (events : List Event) → KeepsTheRule (get files) → IsPastAll (get files) → HasHistory (woven choose files names runs events)

-- each file here is one that was seen
abbrev pub AreSeen : sound.Files → List Seen → Type 0
AreSeen taken seen = (n bytes : List ℕ) → taken n ≡ Some bytes → SawFile seen n bytes

-- So a loader of it that has finished answers as a load that links the originals of the files that it saw, at the same places, and of its own file, where that is a position-independent program, the one that it becomes; and its path is the fast one exactly where these files allow it there.
abbrev pub WeavesAreOrdinary : Type 0 → Type 0
WeavesAreOrdinary E = (choose : Choice) (files : Files) (names : List (List ℕ)) (runs : List Run) (events : List Event) (k : ℕ) (name : List ℕ) (o : Opened (Unit {0}))
    → KeepsTheRule (get files) → IsPastAll (get files) → slice_get names k ≡ Some name → slice_get (woven choose files names runs events).loaders k ≡ Some o → wanted o ≡ None
    → (taken : sound.Files) (fault : LoadFault → E) (file : List ℕ → Result (List ℕ) E) → AreSeen taken o.seen → GivesFrom taken file → HasSeen fault file o.seen
    → SameAnswer (because fault (ended choose o)) (ordinary_load (is_fast skip_causes (loading_folder choose taken name) name) choose o.load.busy fault (given_from choose fault file name) name)

-- what a weave copies of a folder keeps the rule where the folder does, and no stamp of it is past the cache's last one
abbrev pub CopiesKeep : Type 0
CopiesKeep = (files : Files) → KeepsTheRule (get files) → IsPastAll (get files) → KeepsTheRule (get (kept files)) × IsPastAll (get (kept files))
