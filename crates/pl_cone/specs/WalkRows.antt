-- The rows of a folder's files that have walks, and those of a table that may be prelinked (System V gABI chapter 5, "Shared Object Dependencies").
use Rattle.std.specs.Prelude.{◌≡◌, ℕ, List, ◌∷◌, map, slice_get, Some, None, Ok}
use Rattle.pl_elf.specs.declared.kind.Kind.TheVariants.{Library}
use Rattle.pl_object.specs.declared.object.Object.{Object}
use Rattle.pl_object.specs.declared.reloc.Reloc.{Reloc}
use Rattle.pl_scope.specs.Members.{IsLinked}
use Rattle.pl_scope.specs.Scope.{objects}
use Rattle.pl_tls.specs.declared.module.Module.{Module}
use Rattle.pl_value.specs.Values.{value_of}
use Rattle.pl_value.specs.declared.word.Word.{Word}
use Rattle.pl_cone.specs.Folder.{IsWithin}
use Rattle.pl_cone.specs.Table.{AreRows, IsLinkBy, walk_for, walked_by}
use Rattle.pl_cone.specs.Taken.{object_by}
use Rattle.pl_cone.specs.declared.linking.Link.{Link}
use Rattle.pl_cone.specs.declared.table.RunTable.{RunTable}
use Rattle.pl_cone.specs.declared.taken.Taken.{Taken}

-- ---- rows with walks

-- a row whose walk is not refused: its file, and the rows that tell the walk of its name, its own first
pub record HasOwnWalk (ts : List Taken) (walks : List (List ℕ)) (row : ℕ) : Type 0 where
  pub taken : Taken
  pub object : Object
  pub others : List ℕ
  pub file : slice_get ts row ≡ Some taken
  pub there : object_by taken.entry ≡ Some object
  pub walk : slice_get walks row ≡ Some (row ∷ others)
  pub rows : AreRows ts (row ∷ others)
  pub told : walk_for ts taken.name ≡ Ok (walked_by ts (row ∷ others))

-- a row is a library's, whose own walk is within that of rows
pub record IsLibraryOf (ts : List Taken) (walks : List (List ℕ)) (rows : List ℕ) (r : ℕ) : Type 0 where
  pub own : HasOwnWalk ts walks r
  pub kind : own.object.kind ≡ Library
  pub within : IsWithin (walked_by ts (r ∷ own.others)) (walked_by ts rows)

-- ---- rows that may be prelinked

-- a program or a library, whose walk is not refused, no member of which has a form fault, and what its own relocations find
pub record IsCandidateRow (t : RunTable) (row : ℕ) : Type 0 where
  pub own : HasOwnWalk t.files.now t.walks row
  pub kind : IsLinked own.object.kind
  pub formed : (m r : ℕ) (x : Taken) → slice_get (row ∷ own.others) m ≡ Some r → slice_get t.files.now r ≡ Some x → x.fault ≡ None
  pub links : (l : Link) → slice_get t.links row ≡ Some l → IsLinkBy t.files.now t.index (row ∷ own.others) l

-- ---- one word

-- a relocation of the library of `inner`, the member m of the walk of rows, gives one word in both walks, where each row has its place
pub record GivesOneWordAt (ts : List Taken) (place : ℕ → ℕ) (rows inner : List ℕ) (m : ℕ) (r : Reloc) : Type 0 where
  pub word : Word
  pub own : (modules : List Module) → value_of (objects (walked_by ts inner)) (map place inner) modules 0 r ≡ Ok word
  pub there : (modules : List Module) → value_of (objects (walked_by ts rows)) (map place rows) modules m r ≡ Ok word
