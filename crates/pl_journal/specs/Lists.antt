-- Names of a folder, as a list.
use Rattle.std.specs.Prelude.{◌≡◌, Bool, List, map, is_some, String, string_bytes}
use Rattle.std.specs.List.{list_any}
use Rattle.std.specs.declared.alloc.Global.{Global}
use Rattle.pl_folder.specs.Disk.{Name, View, same}
use Rattle.pl_journal.specs.Names.{is_journal_name}

abbrev pub texts : List (String Global) → List Name
texts names = map string_bytes names

abbrev pub is_listed : Name → List Name → Bool
is_listed n names = list_any (same n) names

-- whether one of them is one of the journal's own
abbrev pub any_own : List Name → Bool
any_own names = list_any is_journal_name names

-- which names there are
abbrev pub IsListOf : List Name → View → Type 0
IsListOf names v = (n : Name) → is_listed n names ≡ is_some (v n)
