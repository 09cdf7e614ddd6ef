-- What undoing makes of names that were looked at.
use Rattle.std.specs.Prelude.{◌≡◌, ℕ, ◌||◌, is_some, List, Option, Some, None, Result, Ok}
use Rattle.std.specs.BTreeMap.{get_by}
use Rattle.std.specs.Cmp.Lexicographic.{slice_cmp}
use Rattle.std.specs.Map.{update}
use Rattle.std.specs.Option.{option_flatten}
use Rattle.std.specs.Ordering.{nat_cmp}
use Rattle.std.specs.Str.{bytes_eq}
use Rattle.pl_base.specs.Files.{Files}
use Rattle.pl_journal.specs.declared.change.Change.{Change}
use Rattle.pl_change.specs.Names.{has_name}
use Rattle.pl_change.specs.Undo.{all_pass, passes, undo_asked}
use Rattle.pl_change.specs.declared.cause.Cause.{Cause}
use Rattle.pl_change.specs.declared.looked.Looked.{Looked}

-- what was found under a name, if it was looked at
abbrev pub found_at : Looked → List ℕ → Option (Option Change)
found_at looked name = get_by (λ k. slice_cmp nat_cmp name k.now) looked.rows

-- the row of a name that was looked at and has one
abbrev pub row_at : Looked → List ℕ → Option Change
row_at looked name = option_flatten (found_at looked name)

-- no name was looked at
abbrev pub IsUnlooked : Looked → Type 0
IsUnlooked looked = (name : List ℕ) → found_at looked name ≡ None

-- under one name stands this, and under every other what stood there
abbrev pub IsPut : Looked → List ℕ → Option (Option Change) → Looked → Type 0
IsPut old name found new = (other : List ℕ) → found_at new other ≡ update bytes_eq (found_at old) name found other

-- what stands under a name is what undoing makes of it
abbrev pub AreFound : Files → Looked → Type 0
AreFound files looked = (name : List ℕ) (row : Option Change) → found_at looked name ≡ Some row → undo_asked files name ≡ Ok row

-- one name more was looked at
abbrev pub HasMore : Looked → List ℕ → Looked → Type 0
HasMore old name new = (other : List ℕ) → is_some (found_at new other) ≡ (bytes_eq name other || is_some (found_at old other))

-- the names that were looked at are these
abbrev pub Looks : List (List ℕ) → Looked → Type 0
Looks names looked = (name : List ℕ) → is_some (found_at looked name) ≡ has_name name names

-- a name of the words passes, or has this cause
abbrev pub passes_at : Files → List ℕ → Result (Unit {0}) Cause
passes_at files name = passes (undo_asked files) tt name

-- all names of the words pass, or the first cause
abbrev pub pass_all : Files → List (List ℕ) → Result (Unit {0}) Cause
pass_all files names = all_pass (undo_asked files) names

-- a call that looks has no value of its own
abbrev pub no_value : Looked → Unit {0}
no_value looked = tt
