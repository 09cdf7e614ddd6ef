-- The grammar of an undo section, in both versions: version 2 has the original's digest.
use Rattle.std.specs.Prelude.{◌≡◌, ℕ, ◌+◌, ◌*◌, ◌^◌, Bool, true, ◌&&◌, ◌==◌, nat_lt, if◌then◌else◌, List, [], ◌++◌, length, Option, Some, None}
use Rattle.pl_base.specs.Bytes.{bytes64}
use Rattle.pl_elf.specs.Headers.{header}
use Rattle.pl_elf.specs.declared.constants.TheConstants.{HEADER_SIZE, SEGMENT_SIZE, SECTION_SIZE, ET_EXEC, ET_DYN}
use Rattle.pl_elf.specs.declared.header.Header.{Header}
use Rattle.pl_undo.specs.declared.constants.TheConstants.{UNDO_MAGIC, UNDO_MAGIC_2, DIGEST_SIZE, DIGEST_AT, HEADERS_AT}
use Rattle.pl_undo.specs.declared.undo.Undo.{Undo}

-- ---- the version, by the digest

-- the first bytes
abbrev pub magic : Option (List ℕ) → List ℕ
magic None = UNDO_MAGIC
magic (Some digest) = UNDO_MAGIC_2

-- the bytes between the numbers and the headers
abbrev pub digest_bytes : Option (List ℕ) → List ℕ
digest_bytes None = []
digest_bytes (Some digest) = digest

-- where the headers begin
abbrev pub headers_at : Option (List ℕ) → ℕ
headers_at None = DIGEST_AT
headers_at (Some digest) = HEADERS_AT

-- a digest has 32 bytes
abbrev pub is_digest : Option (List ℕ) → Bool
is_digest None = true
is_digest (Some digest) = length digest == DIGEST_SIZE

-- ---- the section

-- its first bytes, five numbers, the last of which is how many bytes are kept, the digest, the headers and the kept bytes
unfoldable pub undo_bytes : Undo → List ℕ
undo_bytes u =
    magic u.digest ++ bytes64 u.slot ++ bytes64 u.cut ++ bytes64 u.shift ++ bytes64 u.length ++ bytes64 (length u.kept)
    ++ digest_bytes u.digest ++ u.headers ++ u.kept

-- how many bytes the header, the program header table and the section header table have together
unfoldable pub headers_size : Header → ℕ
headers_size h = HEADER_SIZE + SEGMENT_SIZE * h.phnum + SECTION_SIZE * h.shnum

-- whether the numbers fit the original's type: nothing is inserted into a library, and a program is not moved
unfoldable pub fits_kind : ℕ → Undo → Bool
fits_kind kind u =
    if kind == ET_DYN then u.cut == u.length && u.shift == 0
    else (if kind == ET_EXEC then u.slot == 0 else true)

-- whether the numbers have 64 bits
unfoldable pub are_words : Undo → Bool
are_words u = nat_lt u.slot (2 ^ 64) && nat_lt u.cut (2 ^ 64) && nat_lt u.shift (2 ^ 64) && nat_lt u.length (2 ^ 64) && nat_lt (length u.kept) (2 ^ 64)

-- whether the headers are as long as the header among them says, and fit the numbers
unfoldable pub has_headers : Undo → Bool
has_headers u = length u.headers == headers_size (header u.headers) && fits_kind (header u.headers).kind u

-- what is spelled
abbrev pub is_undo : Undo → Bool
is_undo u = are_words u && is_digest u.digest && has_headers u

-- the grammar
pub record IsUndoOf (bytes : List ℕ) (u : Undo) : Type 0 where
  pub in_bytes : bytes ≡ undo_bytes u
  pub is_spelled : is_undo u ≡ true
