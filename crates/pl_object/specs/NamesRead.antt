-- The names of needed libraries that were read, by the offsets of their strings.
use Rattle.std.specs.Prelude.{◌≡◌, ℕ, ◌==◌, List, Option, Some, None, Ok, cond}
use Rattle.std.specs.BTreeMap.{get}
use Rattle.std.specs.Ordering.{nat_cmp}
use Rattle.pl_base.specs.Strings.{string_at}
use Rattle.pl_object.specs.Names.{checked_name}
use Rattle.pl_object.specs.declared.names_read.NamesRead.{NamesRead}

-- the name that was read at an offset
abbrev pub name_read : NamesRead → ℕ → Option (List ℕ)
name_read read at = get nat_cmp read.texts at

-- no name was read
abbrev pub IsUnread : NamesRead → Type 0
IsUnread read = (at : ℕ) → name_read read at ≡ None

-- a name stands at one offset, and at every other what stood there
abbrev pub IsNameKept : NamesRead → ℕ → List ℕ → NamesRead → Type 0
IsNameKept old at name new = (other : ℕ) → name_read new other ≡ cond (at == other) (Some name) (name_read old other)

-- what was read at an offset is the valid name that begins there
abbrev pub AreRead : List ℕ → NamesRead → Type 0
AreRead strings read = (at : ℕ) (name : List ℕ) → name_read read at ≡ Some name → checked_name (string_at at strings) ≡ Ok name
