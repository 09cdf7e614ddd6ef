-- The walk of a program's name over files (gABI chapter 5, "Shared Object Dependencies"), and one file of it.
use Rattle.std.specs.Prelude.{◌≡◌, ℕ, ◌&&◌, List, [], ◌∷◌, ◌++◌, map, Option, Some, None, Result, Ok, Err}
use Rattle.std.specs.Option.{ok_or}
use Rattle.std.specs.Str.{bytes_eq}
use Rattle.pl_base.specs.Answers.{◌>>=◌, because, unless}
use Rattle.pl_base.specs.Each.{each}
use Rattle.pl_form.specs.Files.{file_in}
use Rattle.pl_form.specs.declared.file.File.{File}
use Rattle.pl_form.specs.declared.file.File.TheVariants.{Plain, Marked}
use Rattle.pl_form.specs.declared.file.Marked as form
use Rattle.pl_object.specs.declared.object.Object.{Object}
use Rattle.pl_elf.specs.Kinds.{is_library}
use Rattle.pl_scope.specs.Walking.{Walking, IsWalking, wants}
use Rattle.pl_scope.specs.Walk.{Walked, itself}
use Rattle.pl_scope.specs.Walk as walk
use Rattle.pl_scope.specs.declared.fault.WalkFault.{WalkFault}
use Rattle.pl_loader.specs.Faults.{of_file, of_walk}
use Rattle.pl_loader.specs.Loading.{Loading}
use Rattle.pl_loader.specs.declared.object_file.Mark.{Mark}
use Rattle.pl_loader.specs.declared.object_file.ObjectFile.{ObjectFile}
use Rattle.pl_loader.specs.declared.fault.LoadFault.{LoadFault}
use Rattle.pl_loader.specs.declared.fault.LoadFault.TheVariants.{NotThere, NotProgram}

-- ---- one file. `name` is the name that is loaded, n a name of its walk

-- what a prelinked file bears besides its original
abbrev pub mark_of : List ℕ → form.Marked → Mark
mark_of bytes m = record { file = bytes; slot = m.slot; stamp = m.stamp; checksum = m.checksum; list = m.list; conflicts = m.conflicts }

-- a file of a name, with the object of its original
abbrev pub with_mark : List ℕ → List ℕ → File → ObjectFile
with_mark n bytes (Plain x) = record { name = n; bytes = bytes; object = x; mark = None }
with_mark n bytes (Marked m) = record { name = n; bytes = m.original; object = m.object; mark = Some (mark_of bytes m) }

-- what a file of a name is: its mark, or else the first acceptance clause, may refuse it
unfoldable pub named : List ℕ → List ℕ → Result ObjectFile LoadFault
named n bytes = because (of_file n) (file_in bytes) >>= λ file. Ok (with_mark n bytes file)

-- a library is not loaded by its own name
unfoldable pub loadable : List ℕ → ObjectFile → Result ObjectFile LoadFault
loadable name f = unless (bytes_eq f.name name && is_library f.object.kind) (NotProgram f.name) (Ok f)

-- both
unfoldable pub read_in : List ℕ → List ℕ → List ℕ → Result ObjectFile LoadFault
read_in name n bytes = named n bytes >>= loadable name

-- one file more of a walk
abbrev pub with_file : Loading → Walking → ObjectFile → Loading
with_file l order f = record { name = l.name; order = order; files = l.files ++ f ∷ [] }

-- the wanted name is given its file, whose object the walk may refuse
unfoldable pub entered : Loading → ObjectFile → Result Loading LoadFault
entered l f = because of_walk (walk.give l.order f.object) >>= λ order. Ok (with_file l order f)

-- the wanted name, n, is given its file, if there is one
unfoldable pub taken : Loading → List ℕ → Option (List ℕ) → Result Loading LoadFault
taken l n file = ok_or file (NotThere n) >>= λ bytes. read_in l.name n bytes >>= entered l

abbrev pub of_wanted : Loading → Option (List ℕ) → Option (List ℕ) → Result Loading LoadFault
of_wanted l file None = Ok l
of_wanted l file (Some n) = taken l n file

-- the same, where the name is the one that the walk wants
abbrev pub give : Loading → Option (List ℕ) → Result Loading LoadFault
give l file = of_wanted l file (wants l.order)

-- nothing but the name, whose file was not given yet
abbrev pub begun : List ℕ → Loading
begun name = record { name = name; order = walk.begun name; files = [] }

-- ---- all files. What a name's file holds, or why there is none, is what `file` tells; a fault of the load itself is told by `fault`

-- a fault of the walk as the caller tells it
abbrev pub walk_fault : {E : Type 0} → (LoadFault → E) → WalkFault → E
walk_fault fault e = fault (of_walk e)

-- the file of a name of the walk
unfoldable pub file_of : {E : Type 0} → (LoadFault → E) → (List ℕ → Result (List ℕ) E) → List ℕ → List ℕ → Result ObjectFile E
file_of fault file name n = file n >>= λ bytes. because fault (read_in name n bytes)

-- the object of a name of the walk
abbrev pub object_of : {E : Type 0} → (LoadFault → E) → (List ℕ → Result (List ℕ) E) → List ℕ → List ℕ → Result Object E
object_of fault file name n = file_of fault file name n >>= λ f. Ok f.object

-- the names of the walk with their objects, or the first refusal
unfoldable pub walked : {E : Type 0} → (LoadFault → E) → (List ℕ → Result (List ℕ) E) → List ℕ → Result Walked E
walked fault file name = walk.walk (walk_fault fault) (object_of fault file name) name

-- the files of names of the walk
abbrev pub files_of : {E : Type 0} → (LoadFault → E) → (List ℕ → Result (List ℕ) E) → List ℕ → Walked → Result (List ObjectFile) E
files_of fault file name all = each (λ m. file_of fault file name m.0) all

-- all files of the walk
unfoldable pub files : {E : Type 0} → (LoadFault → E) → (List ℕ → Result (List ℕ) E) → List ℕ → Result (List ObjectFile) E
files fault file name = walked fault file name >>= files_of fault file name

-- ---- a load under way

-- a file's name and object
abbrev pub member : ObjectFile → List ℕ × Object
member f = (f.name, f.object)

-- the files that were given, and those still to come, are the files of the walk of a name
pub record IsUnderWay {E : Type 0} (fault : LoadFault → E) (file : List ℕ → Result (List ℕ) E) (name : List ℕ) (l : Loading) : Type 0 where
  pub named : l.name ≡ name
  pub walking : IsWalking l.order
  pub walk : walk.IsUnderWay (walk_fault fault) (object_of fault file name) name (map member l.files) l.order
  pub given : files_of fault file name (map member l.files) ≡ Ok l.files

-- a name's file, as it is given, is what `file` tells of it
abbrev pub IsFile : {E : Type 0} → (LoadFault → E) → (List ℕ → Result (List ℕ) E) → List ℕ → Option (List ℕ) → Type 0
IsFile fault file n (Some bytes) = file n ≡ Ok bytes
IsFile fault file n None = file n ≡ Err (fault (NotThere n))

-- whatever folder holds the files, the whole load of this name is still to come
abbrev pub BeginsEveryLoad : List ℕ → Loading → Type 0
BeginsEveryLoad name l = (files : List ℕ → Result (List ℕ) LoadFault) → IsUnderWay itself files name l

-- whatever folder holds the wanted name's file as it is given, the load goes on with one file more
abbrev pub ContinuesEveryLoad : Loading → Option (List ℕ) → Loading → Type 0
ContinuesEveryLoad l file next =
    (files : List ℕ → Result (List ℕ) LoadFault) (name wanted : List ℕ) → wants l.order ≡ Some wanted → IsFile itself files wanted file
    → IsUnderWay itself files name l → IsUnderWay itself files name next
