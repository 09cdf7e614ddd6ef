-- A folder that is lent to a command.
use Rattle.std.specs.Prelude.{ℕ, ◌+◌, ◌*◌}
use Rattle.pl_folder.specs.Seen.{Seen}

-- one number for two
unfoldable pub both : ℕ → ℕ → ℕ
both a b = (a + b) * (a + b) + a

-- the folder, and where the reference points
abbrev pub lent : ℕ → Seen → Seen
lent name seen = record { tells = seen.tells; records = seen.records; files = seen.files; disk = seen.disk; faults = seen.faults; referent = both name seen.referent }
