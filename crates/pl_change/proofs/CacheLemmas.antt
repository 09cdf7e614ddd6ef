-- The cache of a folder.
use Rattle.std.proofs.Common.{◌≡◌, ℕ, List, [], Bool, true, false, Option, Some, None, refl, sym, ◌∙◌, ap}
use Rattle.std.specs.FinMap.{get}
use Rattle.std.specs.Prelude.{Result, Ok, Err, Vec, if◌then◌else◌, length, nat_le}
use Rattle.std.specs.declared.alloc.Global.{Global}
use Rattle.pl_base.specs.Files.{Files}
use Rattle.pl_cache.specs.Spelling.{cache_bytes, is_cache}
use Rattle.pl_folder.specs.Calls.{Takes}
use Rattle.pl_folder.specs.Seen.{Seen}
use Rattle.pl_folder.specs.Taken.{stored, taken}
use Rattle.pl_folder.specs.declared.TheConstants.{STORED}
use Rattle.pl_folder.specs.declared.fault.FolderFault.{FolderFault}
use Rattle.pl_folder.specs.declared.fault.FolderFault.TheVariants as folder_faults
use Rattle.pl_journal.proofs.RecoverParts.{looking}
use Rattle.pl_slots.specs.declared.slot.Slot.{Slot}
use Rattle.pl_change.specs.Answers.{Finds}
use Rattle.pl_change.specs.Folder.{cache, cache_by, cache_file, no_cache}
use Rattle.pl_change.specs.declared.cause.Cause.{Cause}
use Rattle.pl_change.specs.declared.cause.Cause.TheVariants as causes
use Rattle.pl_change.specs.declared.fault.BatchFault.TheVariants.{DiskFailed, NoMemory}
use Rattle.pl_change.specs.declared.fault.BatchFault.TheVariants as faults
use Rattle.pl_change.proofs.UndoLemmas.{items}

-- one without slots has a spelling
none_spelled : is_cache no_cache ≡ true
unfolding is_cache
none_spelled = refl

pub empty_spelled : (rows : List Slot) → rows ≡ [] → is_cache (record { last = 0; rows = rows }) ≡ true
empty_spelled rows none = ap (λ (rs : List Slot). is_cache (record { last = 0; rows = rs })) none ∙ none_spelled

-- ---- its file

abbrev of_cache : Result (List ℕ) FolderFault → Result (List ℕ) Cause
of_cache (Ok bytes) = Ok bytes
of_cache (Err folder_faults.NotThere) = Ok (cache_bytes no_cache)
of_cache (Err folder_faults.TooLarge) = Err causes.BadCache
of_cache (Err folder_faults.Failed) = Err causes.BadCache
of_cache (Err folder_faults.NoMemory) = Err causes.BadCache

cache_size : (found : List ℕ) (b : Bool) → (if b then Ok found else Err causes.BadCache) ≡ of_cache (if b then Ok found else Err folder_faults.TooLarge)
cache_size found true = refl
cache_size found false = refl

cache_stored : (file : Option (List ℕ)) → cache_by file ≡ of_cache (stored file)
cache_stored None = refl
cache_stored (Some found) = cache_size found (nat_le (length found) STORED)

cache_taken : (files : Files) → cache_file files ≡ of_cache (taken files cache)
unfolding cache_file
cache_taken files = cache_stored (get files cache)

module _ {a b : Seen} where
  pub cache_took : (file : Vec ℕ Global) → Takes cache (Ok file) a b → Finds (cache_file a.files) items (Ok file) a b
  cache_took file takes = record { means = λ t. cache_taken a.files ∙ ap of_cache (takes.bytes t); calls = looking refl takes.calls }

  pub cache_absent : (file : Vec ℕ Global) → file.items ≡ cache_bytes no_cache → Takes cache (Err folder_faults.NotThere) a b → Finds (cache_file a.files) items (Ok file) a b
  cache_absent file is takes = record { means = λ t. cache_taken a.files ∙ ap of_cache (takes.explained t) ∙ ap Ok (sym is); calls = looking refl takes.calls }

  pub cache_untold : Takes cache (Err folder_faults.NotThere) a b → Finds (cache_file a.files) items (Err NoMemory) a b
  cache_untold takes = record { means = tt; calls = looking refl takes.calls }

  pub cache_large : Takes cache (Err folder_faults.TooLarge) a b → Finds (cache_file a.files) items (Err (faults.Cause causes.BadCache)) a b
  cache_large takes = record { means = λ t. cache_taken a.files ∙ ap of_cache (takes.explained t); calls = looking refl takes.calls }

  pub cache_failed : Takes cache (Err folder_faults.Failed) a b → Finds (cache_file a.files) items (Err DiskFailed) a b
  cache_failed takes = record { means = tt; calls = looking refl takes.calls }

  pub cache_lacks : Takes cache (Err folder_faults.NoMemory) a b → Finds (cache_file a.files) items (Err NoMemory) a b
  cache_lacks takes = record { means = tt; calls = looking refl takes.calls }
