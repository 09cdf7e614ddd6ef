-- Members that are compared with their files, and meanings of their relocations as they are handed in.
use Rattle.std.specs.Prelude.{◌≡◌, ◌<◌, ℕ, List, Ok, length}
use Rattle.std.specs.List.{All}
use Rattle.pl_lists.specs.declared.conflict_row.ConflictRow.{ConflictRow}
use Rattle.pl_object.specs.declared.object.Object.{Object}
use Rattle.pl_scope.specs.Scope.{IsAccepted}
use Rattle.pl_tls.specs.declared.module.Module.{Module}
use Rattle.pl_value.specs.Meanings.{meanings}
use Rattle.pl_value.specs.Ordinary.{ArePlaced, loaded_objects}
use Rattle.pl_value.specs.declared.meaning.Meaning.{Meaning}
use Rattle.pl_conflict.specs.Conflicts.{conflicts, rows_of}

-- each has a place and a file, and is placed there
pub record AreCompared (objects : List Object) (places : List ℕ) (parts : List (List ℕ)) : Type 0 where
  pub one_each : length places ≡ length objects
  pub each_part : length parts ≡ length objects
  pub accepted : All IsAccepted objects
  pub placed : ArePlaced places parts objects

-- the same conflict rows are made of some meanings as of all
abbrev pub MakeRows : List Object → List (List ℕ) → List ℕ → List Meaning → List Meaning → Type 0
MakeRows objects parts places all gs = rows_of (loaded_objects places parts objects) all ≡ rows_of (loaded_objects places parts objects) gs

-- meanings of members that are enough for the rows: with some modules of thread-local storage, the same are made of all
pub record AreEnough (objects : List Object) (parts : List (List ℕ)) (places : List ℕ) (gs : List Meaning) : Type 0 where
  pub tls : List Module
  pub all : List Meaning
  pub given : meanings objects places tls ≡ Ok all
  pub within : All (λ g. g.member < length objects) gs
  pub rows : MakeRows objects parts places all gs

-- with whatever modules the same rows are made of all meanings, they are the conflict rows
abbrev pub AreConflicts : List Object → List (List ℕ) → List ℕ → List Meaning → List ConflictRow → Type 0
AreConflicts objects parts places gs rows = (tls : List Module) (all : List Meaning) → meanings objects places tls ≡ Ok all → MakeRows objects parts places all gs → conflicts objects parts places tls ≡ Ok rows
