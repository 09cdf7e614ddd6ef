-- The hashes of entries that may have more entries than one.
use Rattle.std.specs.Prelude.{◌≡◌, ◌<◌, ◌+◌, ◌/◌, ℕ, Bool, true, false, ◌&&◌, ◌==◌, List, length, get_or, slice_index_or}
use Rattle.pl_scope.specs.Index.{entries_of, IsInOrder}
use Rattle.pl_scope.specs.ShortIndex.{mixed}
use Rattle.pl_scope.specs.declared.index.Entry.{Entry}

-- the number of the flag of a hash: the upper 15 bits of its mixed hash
abbrev pub flag_of : ℕ → ℕ
flag_of hash = mixed hash / 131072

-- whether the flag of a hash is set
abbrev pub is_flagged : List Bool → ℕ → Bool
is_flagged flags hash = slice_index_or flags (flag_of hash) false

-- whether a flag is that of two hashes that are one
abbrev pub is_of_twins : ℕ → ℕ → ℕ → Bool
is_of_twins before hash flag = before == hash && flag_of hash == flag

-- the flags of the entries before a place whose hashes the next ones have are set
abbrev pub AreNoted : List Entry → ℕ → List Bool → Type 0
AreNoted es place flags = (k : ℕ) (d : Entry) → k + 1 < place → (get_or es k d).hash ≡ (get_or es (k + 1) d).hash → is_flagged flags (get_or es k d).hash ≡ true

-- there are 32,768 flags, and that of each hash with more entries than one is set
pub record AreShared (es : List Entry) (flags : List Bool) : Type 0 where
  pub count : length flags ≡ 32768
  pub told : (hash : ℕ) → 1 < length (entries_of es hash) → is_flagged flags hash ≡ true

-- entries in order, and the flags of those that share a hash
pub record IsSearchable (es : List Entry) (flags : List Bool) : Type 0 where
  pub order : IsInOrder es
  pub shared : AreShared es flags
