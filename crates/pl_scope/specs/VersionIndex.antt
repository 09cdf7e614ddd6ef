-- The versions of an object by their indexes.
use Rattle.std.specs.Prelude.{◌≡◌, ℕ, ◌==◌, List, [], Option, Some, None, cond, find}
use Rattle.std.specs.BTreeMap.{get}
use Rattle.std.specs.Option.{option_map, option_or}
use Rattle.std.specs.Ordering.{nat_cmp}
use Rattle.pl_ver.specs.Fields.{index_of}
use Rattle.pl_ver.specs.declared.versions.Versions.{Versions}
use Rattle.pl_ver.specs.declared.versions.VersionName.{VersionName}
use Rattle.pl_scope.specs.declared.version_index.VersionIndex.{VersionIndex}

-- the name that is kept for an index of a version
abbrev pub name_under : VersionIndex → ℕ → Option (List ℕ)
name_under index number = option_map (λ name. name.now) (get nat_cmp index.names number)

-- the same of the index of a version word, bit 15 aside
abbrev pub name_by_word : VersionIndex → ℕ → Option (List ℕ)
name_by_word index word = name_under index (index_of word)

-- no version is kept
abbrev pub IsUnnamed : VersionIndex → Type 0
IsUnnamed index = (number : ℕ) → name_under index number ≡ None

-- one version more: it is found by its index where none was before
abbrev pub IsVersionNoted : VersionIndex → VersionName → VersionIndex → Type 0
IsVersionNoted old row new = (number : ℕ) → name_under new number ≡ option_or (name_under old number) (cond (row.index == number) (Some row.name) None)

-- the versions of an object; it has none where it has no version words
abbrev pub names_in : Option Versions → List VersionName
names_in None = []
names_in (Some versions) = versions.names

-- the name of the first version that has an index
abbrev pub first_named : List VersionName → ℕ → Option (List ℕ)
first_named names number = option_map (λ row. row.name) (find (λ row. row.index == number) names)

-- each index has the name of the first version that has it
abbrev pub IsVersionIndex : Option Versions → VersionIndex → Type 0
IsVersionIndex versions index = (number : ℕ) → name_under index number ≡ first_named (names_in versions) number
