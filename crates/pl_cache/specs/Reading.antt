-- Reading a cache from left to right.
use Rattle.std.specs.Prelude.{ℕ, zero, suc, Bool, true, false, ◌&&◌, nat_lt, ◌==◌, List, [], ◌∷◌, length, take, drop, Result, Ok, Err, if◌then◌else◌}
use Rattle.std.specs.Str.{bytes_eq}
use Rattle.pl_base.specs.Answers.{◌>>=◌}
use Rattle.pl_base.specs.Bytes.{word32, word64}
use Rattle.pl_base.specs.Names.{is_valid_name}
use Rattle.pl_slots.specs.declared.slot.Slot.{Slot}
use Rattle.pl_cache.specs.declared.cache.Cache.{Cache}
use Rattle.pl_cache.specs.declared.constants.TheConstants.{MAX_ROWS}
use Rattle.pl_cache.specs.declared.fault.CacheFault.{CacheFault}
use Rattle.pl_cache.specs.declared.fault.CacheFault.TheVariants.{BadCache, NoMemory}
use Rattle.pl_cache.specs.Spelling.{is_cache, magic_of}

abbrev pub is_memory : CacheFault → Bool
is_memory NoMemory = true
is_memory BadCache = false

-- each reading of a field gives a value and the bytes after it
unfoldable pub number32_at : List ℕ → Result (ℕ × List ℕ) CacheFault
number32_at bytes = if nat_lt (length bytes) 4 then Err BadCache else Ok (word32 0 bytes, drop 4 bytes)

unfoldable pub number64_at : List ℕ → Result (ℕ × List ℕ) CacheFault
number64_at bytes = if nat_lt (length bytes) 8 then Err BadCache else Ok (word64 0 bytes, drop 8 bytes)

unfoldable pub name_of_size : ℕ → List ℕ → Result (List ℕ × List ℕ) CacheFault
name_of_size size bytes =
    if nat_lt (length bytes) size then Err BadCache else (if is_valid_name (take size bytes) then Ok (take size bytes, drop size bytes) else Err BadCache)

unfoldable pub name_at : List ℕ → Result (List ℕ × List ℕ) CacheFault
name_at [] = Err BadCache
name_at (size ∷ rest) = name_of_size size rest

unfoldable pub row_at : List ℕ → Result (Slot × List ℕ) CacheFault
row_at bytes = do
  name ← name_at bytes
  start ← number64_at name.1
  span ← number64_at start.1
  Ok (record { name = name.0; start = start.0; span = span.0 }, span.1)

unfoldable pub rows_at : ℕ → List ℕ → Result (List Slot × List ℕ) CacheFault
rows_at zero bytes = Ok ([], bytes)
rows_at (suc n) bytes = do
  first ← row_at bytes
  others ← rows_at n first.1
  Ok (first.0 ∷ others.0, others.1)

-- the bytes behind the eight of the magic
unfoldable pub behind_magic : List ℕ → Result (List ℕ) CacheFault
behind_magic bytes = if nat_lt (length bytes) 8 then Err BadCache else Ok (drop 8 bytes)

-- so many rows, and nothing behind them
unfoldable pub all_rows : ℕ → List ℕ → Result (List Slot) CacheFault
all_rows count bytes =
    if nat_lt MAX_ROWS count then Err BadCache else (rows_at count bytes >>= λ rows. if length rows.1 == 0 then Ok rows.0 else Err BadCache)

-- the fields of a cache
unfoldable pub fields : List ℕ → Result Cache CacheFault
fields bytes = do
  stamp ← behind_magic bytes
  last ← number32_at stamp
  count ← number32_at last.1
  rows ← all_rows count.0 count.1
  Ok (record { last = last.0; rows = rows })

-- the first eight bytes are the magic of the rows
unfoldable pub has_magic : List ℕ → Cache → Bool
has_magic bytes cache = bytes_eq (take 8 bytes) (magic_of cache.rows)

abbrev pub checked : List ℕ → Cache → Result Cache CacheFault
checked bytes cache = if is_cache cache && has_magic bytes cache then Ok cache else Err BadCache

-- what bytes say as a cache
unfoldable pub read : List ℕ → Result Cache CacheFault
read bytes = fields bytes >>= checked bytes
