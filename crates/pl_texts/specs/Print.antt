-- The cache of a folder's files, and its text.
use Rattle.std.specs.Prelude.{ℕ, List, Result, Ok, Err}
use Rattle.pl_base.specs.Answers.{◌>>=◌, because}
use Rattle.pl_base.specs.Files.{Files}
use Rattle.pl_cache.specs.Reading.{read}
use Rattle.pl_cache.specs.declared.cache.Cache.{Cache}
use Rattle.pl_cache.specs.declared.fault.CacheFault.{CacheFault}
use Rattle.pl_folder.specs.Taken.{taken}
use Rattle.pl_folder.specs.declared.fault.FolderFault.{FolderFault}
use Rattle.pl_folder.specs.declared.fault.FolderFault.TheVariants.{Failed, NotThere, TooLarge, NoMemory}
use Rattle.pl_texts.specs.CacheText.{no_cache, print_text}
use Rattle.pl_texts.specs.declared.cause.Cause.{Cause}
use Rattle.pl_texts.specs.declared.cause.Cause.TheVariants.{BadCache}
use Rattle.pl_texts.specs.declared.printing.TheConstants.{CACHE}

-- ---- the cache

abbrev pub bad_cache : CacheFault → Cause
bad_cache fault = BadCache

-- what the folder gives of the file
abbrev pub cache_of : Result (List ℕ) FolderFault → Result Cache Cause
cache_of (Ok bytes) = because bad_cache (read bytes)
cache_of (Err NotThere) = Ok no_cache
cache_of (Err TooLarge) = Err BadCache
cache_of (Err Failed) = Err BadCache
cache_of (Err NoMemory) = Err BadCache

unfoldable pub cache_in : Files → Result Cache Cause
cache_in files = cache_of (taken files CACHE.now)

-- ---- its text

-- the text of the cache of files, or why there is none
unfoldable pub printed : Files → Result (List ℕ) Cause
printed files = cache_in files >>= λ cache. Ok (print_text cache)
