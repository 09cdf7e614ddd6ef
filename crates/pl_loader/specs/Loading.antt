-- How far a load has come that asks for one file after the other.
use Rattle.std.specs.Prelude.{◌≡◌, ◌<◌, ◌^◌, ℕ, true, false, ◌&&◌, List, [], ◌∷◌, Option, Some, None, Ok, drop, length, map, slice_get}
use Rattle.std.specs.List.{All}
use Rattle.std.specs.Str.{bytes_eq}
use Rattle.pl_form.specs.Files.{BearsSegments}
use Rattle.pl_form.specs.Marks.{IsFormOf}
use Rattle.pl_form.specs.declared.file.Marked.{Marked}
use Rattle.pl_form.specs.declared.version.Version.{Version}
use Rattle.pl_object.specs.Reads.{reads}
use Rattle.pl_object.specs.declared.object.Object.{Object}
use Rattle.pl_elf.specs.Kinds.{is_library}
use Rattle.pl_elf.specs.declared.range.Range.{Range}
use Rattle.pl_scope.specs.Walking.{Walking, IsWalking}
use Rattle.pl_value.specs.Ordinary.{ArePlaced}
use Rattle.pl_loader.specs.declared.object_file.Mark.{Mark}
use Rattle.pl_loader.specs.declared.object_file.ObjectFile.{ObjectFile}

-- the name that is loaded, the walk of it as far as it has come, and the files of the walk's first names
pub record Loading : Type 0 where
  pub name : List ℕ
  pub order : Walking
  pub files : List ObjectFile

abbrev pub objects_of : List ObjectFile → List Object
objects_of files = map (λ f. f.object) files

-- the originals
abbrev pub parts_of : List ObjectFile → List (List ℕ)
parts_of files = map (λ f. f.bytes) files

-- the originals of files may be loaded at these places
abbrev pub ArePlacedFiles : List ℕ → List ObjectFile → Type 0
ArePlacedFiles places files = ArePlaced places (parts_of files) (objects_of files)

-- all that a prelinked file is made of, in a version
abbrev pub made_of : ObjectFile → Mark → Version → Marked
made_of f k version = record { object = f.object; original = f.bytes; slot = k.slot; stamp = k.stamp; checksum = k.checksum; list = k.list; conflicts = k.conflicts; version = version }

-- a prelinked file is a form of its original
pub record IsForm (f : ObjectFile) (k : Mark) : Type 0 where
  pub version : Version
  pub form : IsFormOf k.file (made_of f k version)
  pub bears : BearsSegments k.file (made_of f k version)

abbrev pub IsFormIfMarked : ObjectFile → Option Mark → Type 0
IsFormIfMarked f None = Unit {0}
IsFormIfMarked f (Some k) = IsForm f k

-- a file's object is the one that acceptance reads in its original
pub record IsRead (f : ObjectFile) : Type 0 where
  pub size : length f.bytes < 2 ^ 32
  pub object : reads f.bytes ≡ Ok f.object
  pub mark : IsFormIfMarked f f.mark

abbrev pub IsLibrary : ObjectFile → Type 0
IsLibrary f = is_library f.object.kind ≡ true

-- the first file of a walk is no library
abbrev pub BeginsWithProgram : List ObjectFile → Type 0
BeginsWithProgram [] = Unit {0}
BeginsWithProgram (f ∷ fs) = is_library f.object.kind ≡ false

-- files of a walk: each one is read, the first is no library, and the others are
pub record AreFiles (files : List ObjectFile) : Type 0 where
  pub read : All IsRead files
  pub program : BeginsWithProgram files
  pub libraries : All IsLibrary (drop 1 files)

-- a file is no library under the name that is loaded
abbrev pub IsLoadable : List ℕ → ObjectFile → Type 0
IsLoadable name f = (bytes_eq f.name name && is_library f.object.kind) ≡ false

-- what holds however far a load has come
pub record IsLoading (l : Loading) : Type 0 where
  pub walking : IsWalking l.order
  pub begins : slice_get l.order.names 0 ≡ Some l.name
  pub given : length l.files ≡ l.order.given
  pub files : AreFiles l.files

-- a load under way: the walk with the files that were given, the addresses that no library may get, and the policy
pub record Load (F : Type 0) : Type 0 where
  pub walk : Loading
  pub busy : Option Range
  pub policy : F
