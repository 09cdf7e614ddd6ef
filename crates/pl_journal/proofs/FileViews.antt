-- What is read of a folder's files after a call.
use Rattle.std.proofs.Common.{◌≡◌, ℕ, true, cond, List, [], ◌++◌, map, Option, Some, None, is_some, refl, sym, ◌∙◌, ap}
use Rattle.std.specs.Prelude.{unwrap_or, String, string_bytes}
use Rattle.std.specs.declared.alloc.Global.{Global}
use Rattle.std.specs.FinMap.{contains_key, contains_key-keys, get, get-insert, get-remove, insert, keys, remove}
use Rattle.std.specs.Cmp.Lexicographic.{nat_list_cmp_total}
use Rattle.pl_base.specs.Files.{Files}
use Rattle.pl_base.proofs.FilesLaws.{get-inserted, insert-inserted}
use Rattle.pl_folder.specs.Disk.{Name, View, same, read}
use Rattle.pl_folder.specs.Effects.{files_after_append, bytes_at, files_after_create, files_after_rename}
use Rattle.pl_folder.specs.Seen.{Seen, IsFolder}
use Rattle.pl_journal.specs.Lists.{IsListOf, texts}
use Rattle.pl_journal.specs.Meaning.{Same}
use Rattle.pl_journal.specs.Phases.{shifted, with_bytes}

-- a view that is read alike is the same view
pub one_view : (v w : View) → Same v w → v ≡ w
one_view v w is = λ i n. is n i

-- a file that is written whole
pub get_written : (files : Files) (name bytes : List ℕ) → Same (get (files_after_append (files_after_create files name) name bytes)) (with_bytes name bytes (get files))
get_written files name bytes n =
    ap (λ (o : Option (List ℕ)). get (insert (insert files name []) name (unwrap_or o [] ++ bytes)) n) (get-inserted files name [])
    ∙ ap (λ (f : Files). get f n) (insert-inserted files name [] bytes)
    ∙ get-insert nat_list_cmp_total files name bytes n

some_bytes : (o : Option (List ℕ)) → is_some o ≡ true → Some (unwrap_or o []) ≡ o
some_bytes None is = let no : ⊥ = cc in absurd no
some_bytes (Some bytes) is = refl

-- a file that is there, under another name
pub get_renamed : (files : Files) (from to : List ℕ) → contains_key files from ≡ true → Same (get (files_after_rename files from to)) (shifted from to (get files))
get_renamed files from to there n =
    get-insert nat_list_cmp_total (remove files from) to (bytes_at files from) n
    ∙ ap (λ (o : Option (List ℕ)). cond (same n to) o (get (remove files from) n)) (some_bytes (get files from) there)
    ∙ ap (λ (o : Option (List ℕ)). cond (same n to) (get files from) o) (get-remove nat_list_cmp_total files from n)

pub get_removed : (files : Files) (name : List ℕ) (n : Name) → get (remove files name) n ≡ cond (same n name) None (get files n)
get_removed files name n = get-remove nat_list_cmp_total files name n

-- the names of the files
pub listed : (names : List (String Global)) (files : Files) → map string_bytes names ≡ keys files → IsListOf (texts names) (get files)
listed names files are n = ap (λ (ns : List Name). Rattle.pl_journal.specs.Lists.is_listed n ns) are ∙ sym (contains_key-keys files n)

-- what a folder reads that tells its disk
pub read_files : (seen : Seen) → IsFolder seen → seen.records ≡ true → get seen.files ≡ read seen.disk.now
read_files seen folder told = one_view (get seen.files) (read seen.disk.now) (folder.reads told)
