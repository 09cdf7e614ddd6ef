-- Folders that no run which prelinks everything refuses.
use Rattle.std.specs.Prelude.{◌≡◌, ◌≤◌, ◌<◌, ◌+◌, ◌*◌, ℕ, false, List, Some, None, Ok, count_by, length}
use Rattle.std.specs.FinMap.{get, keys}
use Rattle.pl_base.specs.Files.{Files}
use Rattle.pl_base.specs.Names.{is_valid_name}
use Rattle.pl_batch.specs.Changes.{run_meant}
use Rattle.pl_change.specs.Folder.{cache}
use Rattle.pl_batch.specs.declared.prelinking.Prelinking.{Prelinking}
use Rattle.pl_change.specs.declared.room.TheConstants.{FOLDER, FILES}
use Rattle.pl_batch.specs.declared.run.Run.TheVariants.{All}
use Rattle.law_folder.specs.Causes.{IsAsked}
use Rattle.pl_folder.specs.declared.TheConstants.{STORED}
use Rattle.pl_form.specs.Files.{marked_in}
use Rattle.pl_journal.specs.Names.{journal}
use Rattle.pl_journal.specs.declared.change.Change.{Change}
use Rattle.pl_object.specs.Reads.{reads}
use Rattle.pl_object.specs.declared.object.Object.{Object}

-- how many files a folder has, and of each how many bytes it has, and how many addresses it takes with its alignment, at most
pub record Bounds : Type 0 where
  pub files : ℕ
  pub bytes : ℕ
  pub addresses : ℕ

-- a file within bounds that is not prelinked
pub record IsSmall (b : Bounds) (file : List ℕ) : Type 0 where
  pub size : length file ≤ b.bytes
  pub plain : marked_in file ≡ None
  pub span : (o : Object) → reads file ≡ Ok o → o.span + o.align ≤ b.addresses

-- a folder of such files without a journal and a cache
pub record IsSmallFolder (b : Bounds) (files : Files) : Type 0 where
  pub no_journal : get files journal ≡ None
  pub no_cache : get files cache ≡ None
  pub few : count_by is_valid_name (keys files) ≤ b.files
  pub each : (n file : List ℕ) → get files n ≡ Some file → IsSmall b file

-- a run takes as much, and its region has as many addresses, of which each library gets its own
pub record HasRoomForFiles (b : Bounds) (p : Prelinking) : Type 0 where
  pub few : b.files ≤ FILES
  pub stored : b.bytes ≤ STORED
  pub together : b.files * b.bytes ≤ FOLDER
  pub some : p.region.start < p.region.end
  pub room : p.region.start + b.files * b.addresses ≤ p.region.end
  pub alone : p.share ≡ false

-- such a run is not refused
abbrev pub SmallFoldersAreTaken : Type 0
SmallFoldersAreTaken = (files : Files) (p : Prelinking) (b : Bounds) → IsSmallFolder b files → IsAsked p → HasRoomForFiles b p → (rows : List Change) × (run_meant (All p) files ≡ Ok rows)
