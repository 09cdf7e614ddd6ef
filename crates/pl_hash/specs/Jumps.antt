-- The symbols that so many steps of a chain lead to, for many symbols at a time.
use Rattle.std.specs.Prelude.{◌≡◌, ℕ, zero, suc, ◌/◌, ◌%◌, Bool, false, ◌&&◌, ◌==◌, List, slice_index_or, Option, Some, None, if◌then◌else◌}
use Rattle.pl_hash.specs.Table.{HashTable}
use Rattle.pl_hash.specs.declared.jumps.Query.{Query}
use Rattle.pl_hash.specs.Table.{admits, matches}
use Rattle.pl_hash.specs.Chain.{is_linked, following}

-- the symbol after one that has a link
unfoldable pub next_in_chain : HashTable → ℕ → Option ℕ
next_in_chain table index = if is_linked table index then following table index else None

-- the symbol so many steps after one
unfoldable pub reach : HashTable → ℕ → Option ℕ → Option ℕ
reach table zero at = at
reach table (suc n) None = None
reach table (suc n) (Some index) = reach table n (next_in_chain table index)

-- the symbol that a list of jumps, one for each symbol, leads to
abbrev pub jump : List (Option ℕ) → Option ℕ → Option ℕ
jump jumps None = None
jump jumps (Some index) = slice_index_or jumps index None

-- a list of jumps of so many steps
abbrev pub AreJumps : HashTable → ℕ → List (Option ℕ) → Type 0
AreJumps table n jumps = (at : Option ℕ) → jump jumps at ≡ reach table n at

-- a query goes one jump where the lowest bit of what is left says so
abbrev pub advanced : List (Option ℕ) → Query → Query
advanced jumps q = record { at = if q.left % 2 == 1 then jump jumps q.at else q.at; left = q.left / 2 }

-- a symbol is the one that was reached
abbrev pub is_at : ℕ → Option ℕ → Bool
is_at index None = false
is_at index (Some at) = at == index

-- it is one that a hash leads to
abbrev pub is_reached : HashTable → ℕ → ℕ → Option ℕ → Bool
is_reached table hash index None = false
is_reached table hash index (Some at) = at == index && is_linked table at && matches table hash at && admits table hash
