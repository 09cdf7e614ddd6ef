-- What a state knows of its file.
use Rattle.std.specs.Prelude.{◌≡◌, ℕ, true, Some}
use Rattle.pl_base.specs.Names.{IsNameLength}
use Rattle.pl_folder.specs.Calls.{IsThere}
use Rattle.pl_folder.specs.Disk.{Name, State, names_of}
use Rattle.pl_folder.specs.Seen.{Seen}

-- the file of a name is firm: its bytes outlast a crash
abbrev pub FileIsFirm : State → Name → Type 0
FileIsFirm s name = (file : ℕ) → names_of s name ≡ Some file → (s.files file).is_firm ≡ true

-- the same, where the folder tells its disk
abbrev pub IsFirm : Seen → Name → Type 0
IsFirm seen name = seen.records ≡ true → FileIsFirm seen.disk.now name

-- a name of 1 to 255 bytes, which is there
abbrev pub IsFile : Seen → Name → Type 0
IsFile seen name = IsNameLength name × IsThere seen name

-- and whose file is firm
abbrev pub IsFirmFile : Seen → Name → Type 0
IsFirmFile seen name = IsFile seen name × IsFirm seen name

-- a state has this name, and its file is there
abbrev pub Has : Seen → Name → Name → Type 0
Has seen name text = (text ≡ name) × IsFile seen text

-- and its file is firm
abbrev pub HasFirm : Seen → Name → Name → Type 0
HasFirm seen name text = (text ≡ name) × IsFirmFile seen text
