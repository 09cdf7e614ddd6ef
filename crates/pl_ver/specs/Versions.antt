-- The versions of an object's symbols (GNU symbol versioning records), and the first of acceptance clauses 17 and 18 that refuses them. Both clauses are this project's profile.
use Rattle.std.specs.Prelude.{ℕ, Bool, true, false, not, ◌&&◌, ◌||◌, ◌==◌, nat_le, nat_lt, List, [], ◌++◌, map, Option, Result, Ok, find, option_map, unwrap_or}
use Rattle.std.specs.List.{list_any}
use Rattle.pl_base.specs.Answers.{unless}
use Rattle.pl_base.specs.Pairs.{any_pair}
use Rattle.pl_base.specs.Strings.{string_at}
use Rattle.pl_ver.specs.declared.constants.TheConstants.{VER_NDX_GLOBAL}
use Rattle.pl_ver.specs.declared.fault.VerFault.{VerFault}
use Rattle.pl_ver.specs.declared.fault.VerFault.TheVariants.{BadChain, BadIndex, NoMemory}
use Rattle.pl_ver.specs.declared.record.Record.{Record}
use Rattle.pl_ver.specs.declared.versions.VersionName.{VersionName}
use Rattle.pl_ver.specs.declared.versions.Versions.{Versions}
use Rattle.pl_ver.specs.Fields.{words, index_of}
use Rattle.pl_ver.specs.Chains.{are_verdefs, are_verneeds, defined, needed}

abbrev pub is_memory : VerFault → Bool
is_memory NoMemory = true
is_memory BadChain = false
is_memory BadIndex = false

-- ---- clause 18

abbrev pub has_index : ℕ → Record → Bool
has_index index r = r.index == index

abbrev pub any_has : ℕ → List Record → Bool
any_has index records = list_any (has_index index) records

-- two records have the same index
abbrev pub any_index_twice : List Record → Bool
any_index_twice records = any_pair (λ r. has_index r.index) records

-- a record with the index of symbols without a version, or of local ones, that is not the base version's
unfoldable pub is_misplaced : Record → Bool
is_misplaced r = nat_le r.index VER_NDX_GLOBAL && not r.base

-- the index of a symbol with a version has no record
unfoldable pub is_unknown : List Record → ℕ → Bool
is_unknown records word = nat_lt VER_NDX_GLOBAL (index_of word) && not (any_has (index_of word) records)

unfoldable pub bad_index : List Record → List ℕ → Bool
bad_index records versym = any_index_twice records || list_any is_misplaced records || list_any (is_unknown records) versym

-- ---- the versions

-- the string that begins at an offset, empty where it has no end
unfoldable pub name_at : List ℕ → ℕ → List ℕ
name_at strings at = unwrap_or (string_at at strings) []

unfoldable pub named : List ℕ → Record → VersionName
named strings r = record { index = r.index; name = name_at strings r.name; defined = r.defined }

-- the version words of a section, and the records with their names
unfoldable pub checked : List ℕ → List Record → List ℕ → Result Versions VerFault
checked versym records strings =
    unless (bad_index records (words versym)) BadIndex
    (Ok (record { index = words versym; names = map (named strings) records }))

unfoldable pub versions : List ℕ → List ℕ → ℕ → List ℕ → ℕ → List ℕ → Result Versions VerFault
versions versym verdef defs verneed needs strings =
    unless (not (are_verdefs strings verdef defs && are_verneeds strings verneed needs)) BadChain
    (checked versym (defined verdef defs ++ needed verneed needs) strings)

-- ---- look-up

-- the name of the first row that has an index
unfoldable pub version_of : Versions → ℕ → Option (List ℕ)
version_of vs index = option_map (λ row. row.name) (find (λ row. row.index == index_of index) vs.names)
