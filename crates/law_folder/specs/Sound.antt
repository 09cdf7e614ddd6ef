-- Folders that are sound, whichever rows of their journal are done.
use Rattle.std.specs.Prelude.{ℕ, Bool, None, if◌then◌else◌}
use Rattle.pl_base.specs.Names.{is_valid_name}
use Rattle.pl_conflict.specs.Format.{Rule}
use Rattle.pl_folder.specs.Disk.{View}
use Rattle.pl_journal.specs.Rows.{done}
use Rattle.pl_rewrite.specs.Skipped.{skip_causes}
use Rattle.law_sound.specs.Rule.{Files}

-- the files under valid names
abbrev pub named : View → Files
named v n = if is_valid_name n then v n else None

-- they keep the rule of prelinked files
abbrev pub KeepsTheRule : View → Type 0
KeepsTheRule v = Rule skip_causes (named v)

-- so they do with any rows of the journal done. Where there is no journal in its grammar there are no rows
abbrev pub IsSound : View → Type 0
IsSound v = (rows : ℕ → Bool) → KeepsTheRule (done rows v)
