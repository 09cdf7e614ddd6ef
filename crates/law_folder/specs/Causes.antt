-- What a run that prelinks everything is refused for.
use Rattle.std.specs.Prelude.{◌≡◌, ◌≤◌, ◌<◌, ◌^◌, ℕ, List, Some, Err}
use Rattle.std.specs.FinMap.{get}
use Rattle.pl_base.specs.Answers.{◌>>=◌}
use Rattle.pl_base.specs.Bytes.{IsBytes}
use Rattle.pl_base.specs.Files.{Files}
use Rattle.pl_elf.specs.declared.constants.TheConstants.{ADDRESS_LIMIT}
use Rattle.pl_batch.specs.All.{all_changes}
use Rattle.pl_change.specs.Folder.{cache, cache_file, cache_in}
use Rattle.pl_change.specs.declared.cause.Cause.TheVariants.{BadCache}
use Rattle.pl_batch.specs.declared.prelinking.Prelinking.{Prelinking}

-- slots end at or below 2^47, and a moment has 32 bits
pub record IsAsked (p : Prelinking) : Type 0 where
  pub region : p.region.end ≤ ADDRESS_LIMIT
  pub moment : p.moment < 2 ^ 32

-- the cache, where it is there, is bytes
abbrev pub HasBytes : Files → Type 0
HasBytes files = (bytes : List ℕ) → get files cache ≡ Some bytes → IsBytes bytes

-- BadCache comes of the cache that is there, and of no plan
abbrev pub BadCacheIsOfTheCache : Type 0
BadCacheIsOfTheCache = (files : Files) (p : Prelinking) → IsAsked p → HasBytes files → all_changes files p ≡ Err BadCache → (cache_file files >>= cache_in) ≡ Err BadCache
