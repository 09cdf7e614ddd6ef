-- What acceptance clauses 20 to 22 and 28 refuse: how symbols are found. A hash table leads to each definer, and no two definers answer to one name and version.
use Rattle.std.specs.Prelude.{ℕ, ◌/◌, Bool, true, false, not, ◌&&◌, ◌||◌, ◌==◌, nat_le, List, [], ◌∷◌, ◌++◌, length, slice_get, Option, Some, None, Result, Ok, if◌then◌else◌}
use Rattle.std.specs.List.{range_with_len, list_any}
use Rattle.std.specs.Str.{bytes_eq}
use Rattle.pl_base.specs.Answers.{refuse}
use Rattle.pl_base.specs.Pairs.{any_pair}
use Rattle.pl_elf.specs.Headers.{segment_of_kind}
use Rattle.pl_elf.specs.declared.constants.TheConstants.{PT_LOAD, PAGE}
use Rattle.pl_elf.specs.declared.segment.Segment.{Segment}
use Rattle.pl_elf.specs.declared.section.Section.{Section}
use Rattle.pl_dyn.specs.declared.constants.TheConstants.{DT_HASH, DT_GNU_HASH}
use Rattle.pl_dyn.specs.declared.tags.Tag.{Tag}
use Rattle.pl_sym.specs.Definers.{is_definer}
use Rattle.pl_sym.specs.Symbol.{is_undefined}
use Rattle.pl_sym.specs.declared.constants.TheConstants.{STT_GNU_IFUNC}
use Rattle.pl_sym.specs.declared.symbol.Symbol.{Symbol}
use Rattle.pl_sym.specs.declared.class.Class.TheVariants.{Jump, Other}
use Rattle.pl_hash.specs.ChainSymbols.{is_chain_symbol, name_hash}
use Rattle.pl_hash.specs.Chain.{well_formed}
use Rattle.pl_hash.specs.Table.{HashTable}
use Rattle.pl_ver.specs.Fields.{index_of}
use Rattle.pl_ver.specs.Versions.{version_of}
use Rattle.pl_ver.specs.declared.constants.TheConstants.{VER_NDX_GLOBAL}
use Rattle.pl_ver.specs.declared.versions.Versions.{Versions}
use Rattle.pl_object.specs.FilePart.{loaded}
use Rattle.pl_object.specs.Tables.{has_tag, section_memory}
use Rattle.pl_object.specs.declared.refusal.Refusal.{Refusal}
use Rattle.pl_object.specs.declared.refusal.Refusal.TheVariants.{Clause}

-- ---- 20. BaseNotZero

abbrev pub is_above : Option Segment → Bool
is_above None = false
is_above (Some s) = not (s.vaddr / PAGE == 0)

-- a library whose first PT_LOAD does not begin in page 0
unfoldable pub base_not_zero : Bool → List Segment → Bool
base_not_zero program ss = not program && is_above (segment_of_kind PT_LOAD ss)

-- ---- 21. HashIncomplete

-- the hash table of a tag, where the tag is there
unfoldable pub hash_table : List ℕ → List Segment → List Section → List Tag → ℕ → Bool → ℕ → List HashTable
hash_table bytes ss sections tags count gnu number =
    if has_tag number tags then record { words = loaded bytes ss (section_memory number tags sections); gnu = gnu; symbols = count } ∷ [] else []

unfoldable pub hash_tables : List ℕ → List Segment → List Section → List Tag → ℕ → List HashTable
hash_tables bytes ss sections tags count =
    hash_table bytes ss sections tags count false DT_HASH ++ hash_table bytes ss sections tags count true DT_GNU_HASH

-- a definer for every reference, jump slots too
abbrev pub defines : Symbol → Bool
defines s = is_definer s Jump false

abbrev pub is_missed : HashTable → ℕ → Option Symbol → Bool
is_missed table index None = false
is_missed table index (Some s) = defines s && not (is_chain_symbol table (name_hash table s.name) index)

-- a definer to which the hash of its own name does not lead
unfoldable pub misses_one : List Symbol → HashTable → Bool
misses_one symbols table = list_any (λ index. is_missed table index (slice_get symbols index)) (range_with_len 0 (length symbols))

-- a table that is not well formed, or misses a definer
unfoldable pub is_incomplete : List Symbol → HashTable → Bool
is_incomplete symbols table = not (well_formed table) || misses_one symbols table

unfoldable pub hash_incomplete : List HashTable → List Symbol → Bool
hash_incomplete tables symbols =
    length tables == 0 && list_any defines symbols || list_any (is_incomplete symbols) tables

-- ---- 22. DuplicateDefiner

-- no version, or the base version's
abbrev pub is_plain : Symbol → Bool
is_plain s = nat_le (index_of s.version) VER_NDX_GLOBAL

abbrev pub version_name : Option Versions → ℕ → Option (List ℕ)
version_name None word = None
version_name (Some versions) word = version_of versions word

abbrev pub is_same_name : Option (List ℕ) → Option (List ℕ) → Bool
is_same_name None other = false
is_same_name (Some name) None = false
is_same_name (Some name) (Some other) = bytes_eq name other

unfoldable pub is_same_version : Option Versions → Symbol → Symbol → Bool
is_same_version versions s t =
    is_plain s && is_plain t || is_same_name (version_name versions s.version) (version_name versions t.version)

-- two definers that answer to one name and version
unfoldable pub is_twin : Option Versions → Bool → Symbol → Symbol → Bool
is_twin versions program s t =
    is_definer s Other program && is_definer t Other program && bytes_eq s.name t.name && is_same_version versions s t

unfoldable pub duplicate_definer : Option Versions → Bool → List Symbol → Bool
duplicate_definer versions program symbols = any_pair (is_twin versions program) symbols

-- ---- 28. Ifunc

-- a symbol that is defined by a function which is yet to answer its address
unfoldable pub is_ifunc : Symbol → Bool
is_ifunc s = not (is_undefined s) && s.kind == STT_GNU_IFUNC

unfoldable pub has_ifunc : List Symbol → Bool
has_ifunc symbols = list_any is_ifunc symbols

-- ---- 20 to 22 in order

unfoldable pub check_symbols : Bool → List Segment → List HashTable → Option Versions → List Symbol → Result (Unit {0}) Refusal
check_symbols program ss tables versions symbols =
    refuse (
    (base_not_zero program ss, Clause 20 0) ∷ (hash_incomplete tables symbols, Clause 21 0)
    ∷ (duplicate_definer versions program symbols, Clause 22 0) ∷ [])
    (Ok tt)
