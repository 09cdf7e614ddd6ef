-- What a form is made of beside its original: the list, the conflicts, and the bytes at the places.
use Rattle.std.specs.Prelude.{◌≡◌, ℕ, ◌+◌, ◌-◌, ◌==◌, Bool, not, List, [], ◌∷◌, ◌++◌, length, map, filter, take, replicate, slice_get, unwrap_or, Option, Some, None}
use Rattle.std.specs.List.{concat}
use Rattle.pl_base.specs.Bytes.{part, word32, bytes64}
use Rattle.pl_base.specs.Windows.{Window, within}
use Rattle.pl_lists.specs.Conflicts.{conflicts_bytes}
use Rattle.pl_lists.specs.Lists.{list_strings, list_bytes}
use Rattle.pl_lists.specs.declared.conflict_row.ConflictRow.{ConflictRow}
use Rattle.pl_lists.specs.declared.list_row.ListRow.{ListRow}
use Rattle.pl_elf.specs.declared.constants.TheConstants.{R_X86_64_NONE}
use Rattle.pl_object.specs.FilePart.{file_window}
use Rattle.pl_object.specs.Relocations.{places}
use Rattle.pl_object.specs.Tables.{strings_memory}
use Rattle.pl_object.specs.declared.reloc.Reloc.{Reloc}
use Rattle.pl_form.specs.Found.{ss_of, tags_of}
use Rattle.pl_form.specs.declared.parts.Extension.{Extension}
use Rattle.pl_form.specs.declared.parts.Listed.{Listed}
use Rattle.pl_form.specs.declared.parts.Spot.{Spot}
use Rattle.sha2.specs.Sha256.{sha256}
use Rattle.pl_form.specs.declared.file.Fill.{Fill}
use Rattle.pl_form.specs.declared.version.Version.{Version}
use Rattle.pl_form.specs.declared.version.Version.TheVariants.{One, Two}

-- ---- lists

-- the strings of a library's list, one 0 and its names, and its table
abbrev pub listed : List ListRow → Listed
listed rows = record { strings = 0 ∷ list_strings rows; rows = list_bytes 1 rows }

-- the bytes of the dynamic strings of an original
abbrev pub strings_of : List ℕ → List ℕ
strings_of o = within (file_window (ss_of o) (strings_memory (tags_of o))) o

-- a program's list, behind the dynamic strings, and its conflicts
abbrev pub extension_of : List ℕ → List ListRow → List ConflictRow → Extension
extension_of o list conflicts = record {
  strings = strings_of o ++ list_strings list;
  rows = list_bytes (length (strings_of o)) list;
  conflicts = conflicts_bytes conflicts;
}

-- ---- the words at the places of a library

-- the bytes at a place: the original's, or those of a word as far as the place goes, and behind them the original's
abbrev pub filled : List ℕ → Spot → Option ℕ → List ℕ
filled o p None = part p.at p.size o ++ replicate p.hidden 0
filled o p (Some word) = take p.size (bytes64 word) ++ part (p.at + 8) (p.size - 8) o ++ replicate p.hidden 0

-- the word at an index, none past the end of the words
abbrev pub word_at : List (Option ℕ) → ℕ → Option ℕ
word_at words i = unwrap_or (slice_get words i) None

-- those at all places; there is no word past the end of the words
abbrev pub all_filled : List ℕ → List Spot → List (Option ℕ) → List ℕ
all_filled o [] words = []
all_filled o (p ∷ ps) [] = filled o p None ++ all_filled o ps []
all_filled o (p ∷ ps) (word ∷ words) = filled o p word ++ all_filled o ps words

-- ---- the fills of a program

abbrev pub fill_window : Fill → Window
fill_window fill = record { at = fill.address; size = length fill.bytes }

abbrev pub bytes_of : Fill → List ℕ
bytes_of fill = fill.bytes

-- the bytes at all places
abbrev pub flat_of : List Fill → List ℕ
flat_of fills = concat (map bytes_of fills)

abbrev pub has_place : Reloc → Bool
has_place r = not (r.kind == R_X86_64_NONE)

-- one for each relocation that is not NONE, in the order of the relocations, at its address and as wide as it
abbrev pub AreFills : List Fill → List Reloc → Type 0
AreFills fills rs = map fill_window fills ≡ places (filter has_place rs)

-- ---- digests

-- the first four bytes of an original's SHA-256
abbrev pub checksum_of : List ℕ → ℕ
checksum_of o = word32 0 (sha256 o)

-- what the undo section of a version has of a digest
abbrev pub kept_digest : Version → List ℕ → Option (List ℕ)
kept_digest One digest = None
kept_digest Two digest = Some digest

abbrev pub digest_in : Version → List ℕ → Option (List ℕ)
digest_in version o = kept_digest version (sha256 o)
