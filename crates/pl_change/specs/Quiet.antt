-- What a command makes of the disk that changes no file: no call that writes but settles.
use Rattle.std.specs.Prelude.{◌≡◌, ◌⊎◌, ℕ, ◌≤◌}
use Rattle.pl_folder.specs.Disk.{View, IsCrashImage, Disk, clock, read}
use Rattle.pl_folder.specs.Since.{Since}
use Rattle.pl_folder.specs.States.{settled}
use Rattle.pl_journal.specs.Meaning.{HasNoOwn}

-- The disk is as it was, settled: no file is created, no byte is added, and no name is changed. Each image since is one of the start's.
pub record OnlySettles (old new : Disk) : Type 0 where
  pub now : new.now ≡ settled old.now
  pub later : clock old ≤ clock new
  pub each : (t : ℕ) (v : View) → Since new t v → Since old t v ⊎ IsCrashImage old.now v

-- where nothing is to be recovered: none of the journal's own names is there
abbrev pub WritesNothing : Disk → Disk → Type 0
WritesNothing old new = HasNoOwn (read old.now) → OnlySettles old new
