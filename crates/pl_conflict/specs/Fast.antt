-- The fast image: the files' segments as they stand, with the conflict rows over them, are the originals loaded and relocated.
use Rattle.std.specs.Prelude.{◌≡◌, ℕ, ◌-◌, Bool, true, false, not, ◌==◌, List, map, slice_index, Option, Some, All}
use Rattle.std.specs.List.{list_any, Any, AllZip}
use Rattle.std.specs.List.Sorted.{IsPermutation}
use Rattle.pl_base.specs.Bytes.{bytes64}
use Rattle.pl_base.specs.Memory.{Memory, Piece, Fill, filled, AtMostOne, lies, byte_at, layered, shown}
use Rattle.pl_image.specs.declared.loaded_object.LoadedObject.{LoadedObject}
use Rattle.pl_lists.specs.declared.conflict_row.ConflictRow.{ConflictRow}
use Rattle.pl_value.specs.Laws.{AllFit}
use Rattle.pl_value.specs.Linked.{under, relocated}
use Rattle.pl_value.specs.declared.meaning.Meaning.{Meaning}
use Rattle.pl_conflict.specs.Conflicts.{held, rows_of}

-- ---- the rows as patches

-- the eight bytes of a row for its address
abbrev pub patch_of : ConflictRow → Fill
patch_of row = record { start = row.address; bytes = bytes64 row.word }

abbrev pub patches : List ConflictRow → List Fill
patches rows = map patch_of rows

-- ---- files that are forms of their originals, seen at one address

-- every member but the first, which is the program, is a library
abbrev pub is_library : ℕ → Bool
is_library member = not (member == 0)

-- a piece of a file stands where the original's does, and has its byte where no place is
pub record IsForm (gs : List Meaning) (a : ℕ) (original file : Piece) : Type 0 where
  pub start : file.start ≡ original.start
  pub size : file.size ≡ original.size
  pub away : lies a original ≡ true → list_any (under a) gs ≡ false → byte_at a file ≡ byte_at a original

-- one of the pieces is over an address and has a byte there
abbrev pub Holds : List Piece → ℕ → Option ℕ → Type 0
Holds files a v = Any (λ q. (lies a q ≡ true) × (Some (byte_at a q) ≡ v)) files

-- under a place of the program stands the byte of the relocated originals; under one of a library the byte that its file holds
pub record AreForms (originals files : List Piece) (members : List LoadedObject) (gs : List Meaning) (a : ℕ) : Type 0 where
  pub forms : AllZip (IsForm gs a) originals files
  pub program : All (λ g. under a g ≡ true → is_library g.member ≡ false → Holds files a (relocated (layered originals) gs a)) gs
  pub library : All (λ g. under a g ≡ true → is_library g.member ≡ true → Holds files a (Some (slice_index (held members g.member g.start) (a - g.start)))) gs

-- ---- images

-- what is shown of the originals, relocated
abbrev pub ordinary_image : List Piece → (ℕ → Bool) → List Meaning → Memory
ordinary_image originals masked gs = shown (layered originals) masked (relocated (layered originals) gs)

-- what is shown of the files at the originals' addresses, with rows over them
abbrev pub fast_image : List Piece → List Piece → (ℕ → Bool) → List ConflictRow → Memory
fast_image originals files masked rows = shown (layered originals) masked (filled (layered files) (patches rows))

-- the two are one at every address, in whatever order the rows stand
abbrev pub FastIsOrdinary : Type 0
FastIsOrdinary = (originals files : List Piece) (masked : ℕ → Bool) (members : List LoadedObject) (gs : List Meaning) (rows : List ConflictRow)
    → AllFit is_library gs → AtMostOne under gs → AtMostOne lies files → IsPermutation (rows_of members gs) rows
    → ((a : ℕ) → masked a ≡ false → AreForms originals files members gs a)
    → (a : ℕ) → fast_image originals files masked rows a ≡ ordinary_image originals masked gs a
