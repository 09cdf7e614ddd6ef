-- Lists of names.
use Rattle.std.proofs.Common.{◌≡◌, Bool, List, [], ◌∷◌, ◌||◌, map, refl, ap}
use Rattle.std.specs.Prelude.{String, string_bytes}
use Rattle.std.specs.List.{list_any}
use Rattle.std.specs.declared.alloc.Global.{Global}
use Rattle.pl_folder.specs.Disk.{Name, same}
use Rattle.pl_journal.specs.Names.{is_journal_name}

any_mapped : (p : Name → Bool) (names : List (String Global)) → list_any p (map string_bytes names) ≡ list_any (λ name. p (string_bytes name)) names
any_mapped p [] = refl
any_mapped p (name ∷ names) = ap (λ b. p (string_bytes name) || b) (any_mapped p names)

pub listed_texts : (n : Name) (names : List (String Global)) → list_any (same n) (map string_bytes names) ≡ list_any (λ name. same n (string_bytes name)) names
listed_texts n names = any_mapped (same n) names

pub own_texts : (names : List (String Global)) → list_any is_journal_name (map string_bytes names) ≡ list_any (λ name. is_journal_name (string_bytes name)) names
own_texts names = any_mapped is_journal_name names
