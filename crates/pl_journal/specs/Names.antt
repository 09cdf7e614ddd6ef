-- The journal's own names.
use Rattle.std.specs.Prelude.{ℕ, ◌||◌, Bool, ◌++◌, nat_eq}
use Rattle.std.specs.Fmt.{decimal}
use Rattle.std.specs.List.{starts_with}
use Rattle.pl_base.specs.Names.{is_valid_name}
use Rattle.pl_folder.specs.Disk.{Name, same}
use Rattle.pl_journal.specs.declared.names.TheConstants.{BESIDE, CACHE, JOURNAL, JOURNAL_NEW}

abbrev pub journal : Name
journal = JOURNAL.now

-- the journal while it is written
abbrev pub journal_new : Name
journal_new = JOURNAL_NEW.now

abbrev pub cache : Name
cache = CACHE.now

-- the file beside, of row i
abbrev pub beside : ℕ → Name
beside i = BESIDE.now ++ decimal i

-- the journal, the one that is written, and the names beside
abbrev pub is_journal_name : Name → Bool
is_journal_name n = same n journal || (same n journal_new || starts_with nat_eq n BESIDE.now)

-- the names that a row may have
abbrev pub is_row_name : Name → Bool
is_row_name n = is_valid_name n || same n cache
