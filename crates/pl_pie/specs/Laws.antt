-- What holds of programs that are fixed, and of what is loosened.
use Rattle.std.specs.Prelude.{◌≡◌, ◌⊎◌, ℕ, ◌<◌, true, List, ◌∷◌, Some, Ok}
use Rattle.std.specs.Int.{is_power_of_two}
use Rattle.std.specs.List.{AllZip}
use Rattle.pl_base.specs.Bytes.{IsBytes}
use Rattle.pl_tls.specs.declared.module.Module.{Module}
use Rattle.pl_elf.specs.declared.range.Range.{Range}
use Rattle.pl_object.specs.Accepted.{HasHead}
use Rattle.pl_object.specs.Reads.{reads}
use Rattle.pl_object.specs.declared.object.Object.{Object}
use Rattle.pl_value.specs.Ordinary.{ArePlaced, ordinary}
use Rattle.law_fixed.specs.Fixed.{fixed}
use Rattle.law_fixed.specs.Laws.{SameImage}
use Rattle.pl_pie.specs.Pie.{as_program, pie}
use Rattle.pl_pie.specs.Fix.{MayBeFixed, fixed_bytes, fits, unfixed}

-- ---- placing

-- a position-independent program has memory, and an alignment that is a power of two: a policy may be asked for its address
abbrev pub PiesArePlaced : Type 0
PiesArePlaced = (bytes : List ℕ) (o : Object) → pie bytes ≡ Some o → (0 < o.span) × (is_power_of_two o.align ≡ true)

-- an address of the region at which a program fits is one at which `fix` takes it
abbrev pub FitsMayBeFixed : Type 0
FitsMayBeFixed = (o : Object) (at : ℕ) → fits o at ≡ true → MayBeFixed o at

-- ---- loosening

-- what is loosened is a position-independent program, of which the file is the fixed one
abbrev pub UnfixIsExact : Type 0
UnfixIsExact = (file bytes : List ℕ) → unfixed file ≡ Some bytes
    → (o : Object) × (at : ℕ) × (pie bytes ≡ Some o) × (fits o at ≡ true) × (fixed_bytes at o bytes ≡ file)

-- a program that is fixed and loosened is the program
abbrev pub UnfixUndoes : Type 0
UnfixUndoes = (bytes : List ℕ) (o : Object) (at : ℕ) → IsBytes bytes → pie bytes ≡ Some o → fits o at ≡ true → unfixed (fixed_bytes at o bytes) ≡ Some bytes

-- ---- what stands in a fixed file

-- its header, its program headers and its section headers are those of the fixed object
abbrev pub FixedFileBears : Type 0
FixedFileBears = (at : ℕ) (o : Object) (bytes : List ℕ) → pie bytes ≡ Some o → HasHead (fixed_bytes at o bytes) (fixed at o)

-- ---- what is read of a fixed file

-- the same bytes of the file, or none
abbrev pub IsSameRange : Range → Range → Type 0
IsSameRange new old = (new ≡ old) ⊎ ((new.end ≡ new.start) × (old.end ≡ old.start))

-- the fixed object, of which a link table that has no bytes may stand elsewhere
pub record IsFixed (at : ℕ) (o x : Object) : Type 0 where
  pub same : x ≡ record (fixed at o) { tables = x.tables }
  pub tables : AllZip IsSameRange x.tables o.tables

-- a fixed file is accepted, as the fixed program, wherever `fix` takes one
abbrev pub FixedFileIsRead : Type 0
FixedFileIsRead = (bytes : List ℕ) (o : Object) (at : ℕ) → IsBytes bytes → pie bytes ≡ Some o → MayBeFixed o at
    → (x : Object) × (reads (fixed_bytes at o bytes) ≡ Ok x) × IsFixed at o x

-- ---- images

-- a position-independent program at an address where `fix` takes it, with other members, has the image of what is read of the fixed file, or the same link refusal
abbrev pub FixedFileIsOrdinary : Type 0
FixedFileIsOrdinary = (at : ℕ) (o x : Object) (os : List Object) (bytes : List ℕ) (parts : List (List ℕ)) (places : List ℕ) (modules : List Module)
    → IsBytes bytes → pie bytes ≡ Some o → MayBeFixed o at → reads (fixed_bytes at o bytes) ≡ Ok x → ArePlaced (at ∷ places) (as_program bytes ∷ parts) (o ∷ os)
    → SameImage (ordinary (o ∷ os) (as_program bytes ∷ parts) (at ∷ places) modules)
    (ordinary (x ∷ os) (fixed_bytes at o bytes ∷ parts) (0 ∷ places) modules)
