-- The names of an object: its needed libraries, its symbols and their versions (System V gABI chapter 5, "Dynamic Section"; GNU symbol versioning). Clauses 15 to 18.
use Rattle.std.specs.Prelude.{ℕ, ◌*◌, Bool, not, ◌&&◌, ◌||◌, ◌==◌, List, [], ◌∷◌, filter, length, Option, Some, None, Result, Ok, Err, if◌then◌else◌}
use Rattle.pl_base.specs.Answers.{Answers, ◌>>=◌, unless, because}
use Rattle.pl_base.specs.Each.{each}
use Rattle.pl_base.specs.Names.{is_valid_name}
use Rattle.pl_elf.specs.declared.segment.Segment.{Segment}
use Rattle.pl_elf.specs.declared.section.Section.{Section}
use Rattle.pl_dyn.specs.Read.{has_number}
use Rattle.pl_dyn.specs.declared.constants.TheConstants.{DT_NEEDED, DT_VERSYM, DT_VERDEF, DT_VERDEFNUM, DT_VERNEED, DT_VERNEEDNUM}
use Rattle.pl_dyn.specs.declared.tags.Tag.{Tag}
use Rattle.pl_base.specs.Strings.{string_at}
use Rattle.pl_sym.specs.Table as table
use Rattle.pl_sym.specs.declared.symbol.Symbol.{Symbol}
use Rattle.pl_ver.specs.Versions as ver
use Rattle.pl_ver.specs.declared.constants.TheConstants.{VERSYM_SIZE}
use Rattle.pl_ver.specs.declared.versions.Versions.{Versions}
use Rattle.pl_object.specs.FilePart.{loaded}
use Rattle.pl_object.specs.Tables.{has_tag, value, strings_memory, symbols_memory, section_memory}
use Rattle.pl_object.specs.Refusals.{is_memory, of_symbols, of_versions}
use Rattle.pl_object.specs.declared.refusal.Refusal.{Refusal}
use Rattle.pl_object.specs.declared.refusal.Refusal.TheVariants.{Clause}

-- ---- 15. BadName

-- a string with an end that is a valid name
abbrev pub checked_name : Option (List ℕ) → Result (List ℕ) Refusal
checked_name None = Err (Clause 15 0)
checked_name (Some name) = if is_valid_name name then Ok name else Err (Clause 15 0)

unfoldable pub needed_name : List ℕ → Tag → Result (List ℕ) Refusal
needed_name strings tag = checked_name (string_at tag.value strings)

-- the answer is the name of a tag's library, or why it is refused, or it is a want of memory
abbrev pub GivesNeeded : List ℕ → Tag → Result (List ℕ) Refusal → Type 0
GivesNeeded strings tag result = Answers is_memory result (needed_name strings tag)

-- the names of the needed libraries, in the order of their tags
unfoldable pub needed : List Tag → List ℕ → Result (List (List ℕ)) Refusal
needed tags strings = each (needed_name strings) (filter (has_number DT_NEEDED) tags)

-- ---- 16. BadSymbol

unfoldable pub strings : List ℕ → List Segment → List Tag → List ℕ
strings bytes ss tags = loaded bytes ss (strings_memory tags)

-- the symbols, not yet with their versions
unfoldable pub symbols : List ℕ → List Segment → List Section → List Tag → Result (List Symbol) Refusal
symbols bytes ss sections tags = because of_symbols (table.symbols (loaded bytes ss (symbols_memory tags sections)) (strings bytes ss tags))

-- ---- 17. BadChain

-- version records without their count, or without a word for each symbol
unfoldable pub bad_version_tags : List Tag → Bool
bad_version_tags tags =
    has_tag DT_VERDEF tags && not (has_tag DT_VERDEFNUM tags && has_tag DT_VERSYM tags)
    || has_tag DT_VERNEED tags && not (has_tag DT_VERNEEDNUM tags && has_tag DT_VERSYM tags)

-- how many records begin a table, by its two tags; none where there is no such table
abbrev pub record_count : ℕ → ℕ → List Tag → ℕ
record_count address count tags = if has_tag address tags then value count tags else 0

-- ---- 18. BadIndex

-- not one version word for each symbol
unfoldable pub miscounted : List ℕ → List Symbol → Bool
miscounted versym symbols = not (length versym == VERSYM_SIZE * length symbols)

-- the versions of the tables that a DT_VERSYM comes with
unfoldable pub table_versions : List ℕ → List Segment → List Section → List Tag → Result Versions Refusal
table_versions bytes ss sections tags = because of_versions (
    ver.versions (loaded bytes ss (section_memory DT_VERSYM tags sections))
    (loaded bytes ss (section_memory DT_VERDEF tags sections)) (record_count DT_VERDEF DT_VERDEFNUM tags)
    (loaded bytes ss (section_memory DT_VERNEED tags sections)) (record_count DT_VERNEED DT_VERNEEDNUM tags)
    (strings bytes ss tags))

unfoldable pub counted : List ℕ → List Symbol → Versions → Result (Option Versions) Refusal
counted versym symbols versions = unless (miscounted versym symbols) (Clause 18 0) (Ok (Some versions))

unfoldable pub known_versions : List ℕ → List Segment → List Section → List Tag → List Symbol → Result (Option Versions) Refusal
known_versions bytes ss sections tags symbols =
    if has_tag DT_VERSYM tags
    then (table_versions bytes ss sections tags >>= counted (loaded bytes ss (section_memory DT_VERSYM tags sections)) symbols)
    else Ok None

-- the versions, where there is a table of version words
unfoldable pub versions : List ℕ → List Segment → List Section → List Tag → List Symbol → Result (Option Versions) Refusal
versions bytes ss sections tags symbols = unless (bad_version_tags tags) (Clause 17 0) (known_versions bytes ss sections tags symbols)

-- ---- symbols with their versions

abbrev pub with_version : Symbol → ℕ → Symbol
with_version s word = record {
  name = s.name;
  value = s.value;
  size = s.size;
  bind = s.bind;
  kind = s.kind;
  visibility = s.visibility;
  section = s.section;
  version = word;
}

-- each symbol with its version word
unfoldable pub with_versions : List Symbol → List ℕ → List Symbol
with_versions [] words = []
with_versions (s ∷ ss) [] = s ∷ ss
with_versions (s ∷ ss) (word ∷ words) = with_version s word ∷ with_versions ss words

abbrev pub versioned : List Symbol → Option Versions → List Symbol
versioned symbols None = symbols
versioned symbols (Some versions) = with_versions symbols versions.index
