-- What contracts see of a folder that tells nothing.
use Rattle.std.specs.Prelude.{ℕ, false, []}
use Rattle.pl_base.specs.Files.{files_of}
use Rattle.pl_folder.specs.Replay.{started}
use Rattle.pl_folder.specs.Seen.{Seen}

abbrev pub unseen : ℕ → Seen
unseen faults = record { tells = false; records = false; files = files_of []; disk = started []; faults = faults; referent = 0 }
