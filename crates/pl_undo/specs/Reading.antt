-- What the bytes of an undo section spell, or the refusal of bytes that are none.
use Rattle.std.specs.Prelude.{ℕ, ◌+◌, ◌-◌, Bool, true, false, not, ◌&&◌, ◌==◌, nat_eq, nat_lt, if◌then◌else◌, List, length, drop, Option, Some, None, Result, Ok}
use Rattle.std.specs.List.{starts_with}
use Rattle.pl_base.specs.Answers.{unless}
use Rattle.pl_base.specs.Bytes.{word64, part}
use Rattle.pl_elf.specs.Headers.{header}
use Rattle.pl_elf.specs.declared.constants.TheConstants.{HEADER_SIZE}
use Rattle.pl_elf.specs.declared.header.Header.{Header}
use Rattle.pl_undo.specs.declared.constants.TheConstants.{UNDO_MAGIC, UNDO_MAGIC_2, DIGEST_SIZE, DIGEST_AT, HEADERS_AT}
use Rattle.pl_undo.specs.declared.undo.Undo.{Undo}
use Rattle.pl_undo.specs.declared.fault.UndoFault.{UndoFault}
use Rattle.pl_undo.specs.declared.fault.UndoFault.TheVariants.{BadUndo, NoMemory}
use Rattle.pl_undo.specs.Section.{headers_at, headers_size, fits_kind}

abbrev pub is_memory : UndoFault → Bool
is_memory NoMemory = true
is_memory BadUndo = false

-- whether the bytes begin so, and go as far as a header at an offset
unfoldable pub has_front : List ℕ → ℕ → List ℕ → Bool
has_front magic at bytes = starts_with nat_eq bytes magic && not (nat_lt (length bytes) (at + HEADER_SIZE))

-- the value of a version whose headers end at an offset
unfoldable pub stored : List ℕ → Option (List ℕ) → ℕ → Undo
stored bytes digest headers_end = record {
  slot = word64 8 bytes;
  cut = word64 16 bytes;
  shift = word64 24 bytes;
  length = word64 32 bytes;
  headers = part (headers_at digest) (headers_end - headers_at digest) bytes;
  kept = drop headers_end bytes;
  digest = digest;
}

-- whether the section ends where its kept bytes do
unfoldable pub ends_at : List ℕ → ℕ → Bool
ends_at bytes headers_end = length bytes == headers_end + word64 40 bytes

abbrev pub fitting : ℕ → Undo → Result Undo UndoFault
fitting kind u = unless (not (fits_kind kind u)) BadUndo (Ok u)

-- the value, by the header that stands in the section
unfoldable pub behind_front : List ℕ → Option (List ℕ) → Header → Result Undo UndoFault
behind_front bytes digest h =
    let headers_end = headers_at digest + headers_size h in
    unless (not (ends_at bytes headers_end)) BadUndo (fitting h.kind (stored bytes digest headers_end))

-- the value in a version
abbrev pub in_version : List ℕ → Option (List ℕ) → Result Undo UndoFault
in_version bytes digest = behind_front bytes digest (header (drop (headers_at digest) bytes))

unfoldable pub undo_of : List ℕ → Result Undo UndoFault
undo_of bytes =
    if has_front UNDO_MAGIC DIGEST_AT bytes then in_version bytes None
    else unless (not (has_front UNDO_MAGIC_2 HEADERS_AT bytes)) BadUndo (in_version bytes (Some (part DIGEST_AT DIGEST_SIZE bytes)))
