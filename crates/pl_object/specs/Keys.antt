-- Keys of definers: two of them have the same key where they answer to one name and version.
use Rattle.std.specs.Prelude.{◌≡◌, ◌<◌, ℕ, Bool, ◌&&◌, ◌==◌, nat_lt, List, [], ◌∷◌, length, Option, Some, None, is_none, slice_get, slice_index_or, slice_set, find, if◌then◌else◌}
use Rattle.std.specs.List.{cons_option}
use Rattle.pl_sym.specs.declared.symbol.Symbol.{Symbol}
use Rattle.pl_sym.specs.declared.class.Class.TheVariants.{Other}
use Rattle.pl_sym.specs.Definers.{is_definer}
use Rattle.pl_ver.specs.declared.constants.TheConstants.{VERSYM_HIDDEN}
use Rattle.pl_ver.specs.declared.versions.Versions.{Versions}
use Rattle.pl_ver.specs.declared.versions.VersionName.{VersionName}
use Rattle.pl_object.specs.SymbolClauses.{is_plain, version_name}

-- ---- keys

-- the name of a definer of no version, or of the base version
unfoldable pub plain_key : Bool → Symbol → Option (List ℕ)
plain_key program s = if is_definer s Other program && is_plain s then Some s.name else None

-- a version's name and a symbol's as one: each byte of the version's follows a 1, and a 0 ends it
unfoldable pub joined : List ℕ → List ℕ → List ℕ
joined [] name = 0 ∷ name
joined (byte ∷ version) name = 1 ∷ byte ∷ joined version name

abbrev pub with_version_name : List ℕ → Option (List ℕ) → Option (List ℕ)
with_version_name name None = None
with_version_name name (Some version) = Some (joined version name)

-- the names of a definer and of its version, where the version has a name
unfoldable pub version_key : Option Versions → Bool → Symbol → Option (List ℕ)
version_key versions program s = if is_definer s Other program then with_version_name s.name (version_name versions s.version) else None

-- the keys of the rows that have one
abbrev pub keys : {X : Type 0} → (X → Option (List ℕ)) → List X → List (List ℕ)
keys key [] = []
keys key (x ∷ xs) = cons_option (key x) (keys key xs)

-- ---- versions by their indexes

-- the row at a place
abbrev pub row_at : List VersionName → Option ℕ → Option VersionName
row_at rows None = None
row_at rows (Some place) = slice_get rows place

abbrev pub has_index : ℕ → VersionName → Bool
has_index index row = row.index == index

-- a place under an index that has none yet
abbrev pub noted : ℕ → ℕ → List (Option ℕ) → List (Option ℕ)
noted index place places = if nat_lt index (length places) && is_none (slice_index_or places index None) then slice_set places index (Some place) else places

-- for each index of a symbol, the place of the first row that has it
abbrev pub ArePlaces : List VersionName → List (Option ℕ) → Type 0
ArePlaces rows places =
    (length places ≡ VERSYM_HIDDEN) × ((index : ℕ) → index < VERSYM_HIDDEN → row_at rows (slice_index_or places index None) ≡ find (has_index index) rows)
