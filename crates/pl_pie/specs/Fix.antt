-- A program fixed at an address, as bytes, and how it is loosened again from its own bytes.
use Rattle.std.specs.Prelude.{◌≡◌, ◌≤◌, ◌<◌, length, ℕ, ◌+◌, ◌-◌, ◌%◌, ◌^◌, Bool, ◌&&◌, ◌==◌, nat_le, List, [], ◌∷◌, Option, Some, None, Result, Ok, Err, if◌then◌else◌}
use Rattle.std.specs.Str.{bytes_eq}
use Rattle.pl_base.specs.Bytes.{IsBytes}
use Rattle.pl_base.specs.Sums.{round_down}
use Rattle.pl_base.specs.Windows.{Window}
use Rattle.pl_elf.specs.Headers.{segment_of_kind}
use Rattle.pl_elf.specs.Kinds.{is_program}
use Rattle.pl_elf.specs.declared.constants.TheConstants.{ET_DYN, PT_LOAD, PAGE, ADDRESS_LIMIT}
use Rattle.pl_elf.specs.declared.segment.Segment.{Segment}
use Rattle.pl_object.specs.Accepted.{tags_of}
use Rattle.pl_object.specs.Reads.{reads}
use Rattle.pl_object.specs.Tables.{link_windows}
use Rattle.pl_object.specs.declared.object.Object.{Object}
use Rattle.pl_object.specs.declared.refusal.Refusal.{Refusal}
use Rattle.pl_move.specs.Moves.{add8, all_moved, all_back}
use Rattle.pl_move.specs.Objects.{tables_of}
use Rattle.pl_pie.specs.Words.{word_window, other_words}
use Rattle.pl_pie.specs.Pie.{typed, as_program, pie}
use Rattle.pl_pie.specs.declared.constants.TheConstants.{REGION_START, REGION_END}

-- ---- words

-- a number added to each of the words at offsets, one after the other, modulo 2^64
unfoldable pub added : ℕ → List ℕ → List ℕ → List ℕ
added more [] bytes = bytes
added more (at ∷ ats) bytes = added more ats (add8 at more bytes)

-- subtracted from each, the last one first
unfoldable pub taken : ℕ → List ℕ → List ℕ → List ℕ
taken less [] bytes = bytes
taken less (at ∷ ats) bytes = add8 at (2 ^ 64 - less) (taken less ats bytes)

abbrev pub word_windows : List ℕ → List Window
word_windows [] = []
word_windows (at ∷ ats) = word_window at ∷ word_windows ats

-- ---- fixing

-- the program's type, with the address added to all that moves with it
unfoldable pub fixed_bytes : ℕ → Object → List ℕ → List ℕ
fixed_bytes at o bytes = added at (other_words o) (all_moved at (tables_of o) (as_program bytes))

-- an address at which `fix` takes a program: aligned, and the program ends there at or below the limit of addresses
pub record MayBeFixed (o : Object) (at : ℕ) : Type 0 where
  pub aligned : at % o.align ≡ 0
  pub ends : at + o.span ≤ ADDRESS_LIMIT

-- one at which a fixed program is found again by its bytes: aligned, and inside the region
unfoldable pub fits : Object → ℕ → Bool
fits o at = at % o.align == 0 && nat_le REGION_START at && nat_le (at + o.span) REGION_END

-- a file that `fix` makes of a program at an address
pub record IsFixedAt (o : Object) (at : ℕ) (file : List ℕ) : Type 0 where
  pub bytes : List ℕ
  pub are_bytes : IsBytes bytes
  pub few : length bytes < 2 ^ 32
  pub program : pie bytes ≡ Some o
  pub may : MayBeFixed o at
  pub is : file ≡ fixed_bytes at o bytes

-- where the link tables of an object stand in a file
abbrev pub windows_in : List ℕ → Object → List Window
windows_in file o = link_windows o.header o.segments o.sections (tags_of file o)

-- ---- loosening

abbrev pub start_of : Option Segment → ℕ
start_of None = 0
start_of (Some s) = s.vaddr

-- the page in which the first PT_LOAD begins
unfoldable pub page_of : Object → ℕ
page_of o = round_down (start_of (segment_of_kind PT_LOAD o.segments)) PAGE

-- the bytes without the address, with the type of a position-independent program
unfoldable pub loosened : Object → List ℕ → List ℕ
loosened x file = typed ET_DYN (all_back (page_of x) (tables_of x) (taken (page_of x) (other_words x) file))

abbrev pub checked_by : ℕ → List ℕ → List ℕ → Option Object → Option (List ℕ)
checked_by at file bytes None = None
checked_by at file bytes (Some o) = if fits o at && bytes_eq (fixed_bytes at o bytes) file then Some bytes else None

-- bytes that are a position-independent program, of which the file is the one fixed at the address
unfoldable pub checked : ℕ → List ℕ → List ℕ → Option (List ℕ)
checked at file bytes = checked_by at file bytes (pie bytes)

abbrev pub unfixed_by : List ℕ → Result Object Refusal → Option (List ℕ)
unfixed_by file (Err fault) = None
unfixed_by file (Ok x) = if is_program x.kind then checked (page_of x) file (loosened x file) else None

-- what a fixed file was made of, by its own bytes
unfoldable pub unfixed : List ℕ → Option (List ℕ)
unfixed file = unfixed_by file (reads file)
