-- What a weave copies of a folder: the files under valid names, and the cache.
use Rattle.std.specs.Prelude.{◌≡◌, ◌≤◌, ℕ, Bool, true, ◌||◌, nat_lt, All, List, [], ◌∷◌, length, sum_by, Option, Some, None, String, Vec, Result, Ok}
use Rattle.std.specs.declared.alloc.Global.{Global}
use Rattle.std.specs.FinMap.{get, keys, retain_keys}
use Rattle.std.specs.Str.{bytes_eq}
use Rattle.pl_base.specs.Answers.{◌>>=◌, unless}
use Rattle.pl_base.specs.Files.{Files, files_of}
use Rattle.pl_base.specs.Names.{is_valid_name}
use Rattle.pl_folder.specs.FileLists.{are_files}
use Rattle.pl_folder.specs.declared.TheConstants.{STORED}
use Rattle.pl_journal.specs.Meaning.{HasNoOwn}
use Rattle.pl_change.specs.Folder.{all_files, cache, cache_file, cache_in, valid_names}
use Rattle.pl_change.specs.Names.{are_many}
use Rattle.pl_change.specs.declared.cause.Cause.{Cause}
use Rattle.pl_change.specs.declared.cause.Cause.TheVariants.{FolderTooLarge, TooManyFiles}
use Rattle.pl_change.specs.declared.room.TheConstants.{FOLDER}

-- files that are stored have together more bytes than a run takes of originals
unfoldable pub are_bulky : List (List ℕ) → Bool
are_bulky bytes = nat_lt FOLDER (sum_by (λ file. length file) bytes)

abbrev pub is_copied : List ℕ → Bool
is_copied name = is_valid_name name || bytes_eq name cache

abbrev pub kept : Files → Files
kept files = retain_keys files is_copied

-- the cache's file, if there is one; it is in its grammar
abbrev pub cache_there : Files → Result (Option (List ℕ)) Cause
cache_there files = cache_file files >>= λ old. cache_in old >>= λ slots. Ok (get files cache)

unfoldable pub copied_by : Files → Result Files Cause
copied_by files = cache_there files >>= λ found. all_files files (valid_names files) >>= λ bytes. unless (are_bulky bytes) FolderTooLarge (Ok (kept files))

-- the copy of a folder whose cache, if it has one, is in its grammar; or the first cause why there is none
unfoldable pub copied : Files → Result Files Cause
copied files = unless (are_many (keys files)) TooManyFiles (copied_by files)

-- a copy: files that a folder in memory may hold, none of them under a name of the journal's own, and each as long as a folder gives
pub record IsCopy (files : List (String Global × Vec ℕ Global)) : Type 0 where
  pub files_are : are_files files ≡ true
  pub no_own : HasNoOwn (get (files_of files))
  pub stored : All (λ file. length file.1.items ≤ STORED) files

-- the cache's file with its name, where there is one
abbrev pub cache_entry : Option (List ℕ) → List (List ℕ × List ℕ)
cache_entry None = []
cache_entry (Some bytes) = (cache, bytes) ∷ []
