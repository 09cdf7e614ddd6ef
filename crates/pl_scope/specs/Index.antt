-- The definers of objects by the hashes of their names.
use Rattle.std.specs.Prelude.{◌≡◌, ◌≤◌, ◌<◌, ◌+◌, ℕ, Bool, true, false, nat_lt, ◌&&◌, ◌==◌, List, [], ◌∷◌, filter, length, Option, Some, None, if◌then◌else◌}
use Rattle.std.specs.List.{All, AllWithin, cons_option}
use Rattle.std.specs.List.Sorted.{IsNonDecreasingBy, IsPartitionPoint}
use Rattle.pl_sym.specs.Definers.{is_definer}
use Rattle.pl_sym.specs.declared.symbol.Symbol.{Symbol}
use Rattle.pl_sym.specs.declared.class.Class.TheVariants.{Other}
use Rattle.pl_hash.specs.Hash.{gnu}
use Rattle.pl_elf.specs.Kinds.{is_program}
use Rattle.pl_object.specs.declared.object.Object.{Object}
use Rattle.pl_scope.specs.ShortIndex.{mixed}
use Rattle.pl_scope.specs.declared.index.Entry.{Entry}

-- a definer of an object, for any class of relocations, under its name's hash, with the number of the symbol
abbrev pub entry_of : Object → ℕ → ℕ → Symbol → Option Entry
entry_of o member number s = if is_definer s Other (is_program o.kind) then Some (record { hash = gnu s.name; member = member; symbol = number }) else None

-- those of symbols whose numbers begin at one
unfoldable pub entries_from : Object → ℕ → ℕ → List Symbol → List Entry
entries_from o member number [] = []
entries_from o member number (s ∷ ss) = cons_option (entry_of o member number s) (entries_from o member (number + 1) ss)

-- those of all symbols of an object
abbrev pub entries_in : Object → ℕ → List Entry
entries_in o member = entries_from o member 0 o.symbols

-- an entry of a hash, a member and the number of a symbol
abbrev pub is_entry : ℕ → ℕ → ℕ → Entry → Bool
is_entry hash member number e = e.hash == hash && (e.member == member && e.symbol == number)

-- those of a hash, in their order
abbrev pub entries_of : List Entry → ℕ → List Entry
entries_of index hash = filter (λ e. e.hash == hash) index

-- the entries are in the order of their mixed hashes
abbrev pub IsRising : List Entry → Type 0
IsRising es = IsNonDecreasingBy (λ e. mixed e.hash) es

-- each hash has 32 bits
abbrev pub AreSmallHashes : List Entry → Type 0
AreSmallHashes es = All (λ e. e.hash < 4294967296) es

-- both, so that those of one mixed hash are those of one hash
pub record IsInOrder (es : List Entry) : Type 0 where
  pub rising : IsRising es
  pub small : AreSmallHashes es

-- the entries before a place have lower mixed hashes than a number
pub record IsBehind (es : List Entry) (hash place : ℕ) : Type 0 where
  pub bound : place ≤ length es
  pub lower : AllWithin (λ e. nat_lt (mixed e.hash) hash ≡ true) es 0 place

-- the place of the first entry whose mixed hash is not lower than a number
pub record IsFirst (es : List Entry) (hash place : ℕ) : Type 0 where
  pub bound : place ≤ length es
  pub point : IsPartitionPoint (λ e. nat_lt (mixed e.hash) hash ≡ true) (λ e. nat_lt (mixed e.hash) hash ≡ false) es place
