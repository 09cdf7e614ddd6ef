-- Files as they read, and the state of the disk that they are read from.
use Rattle.std.specs.Prelude.{◌≡◌, ℕ, true, Option, Some, None}
use Rattle.std.proofs.Props.{props}
use Rattle.std.specs.FinMap.{get}
use Rattle.pl_base.specs.Files.{Files}
use Rattle.pl_folder.specs.Disk.{Name, State, IsBelow, IsWhole, names_of, read, same}

-- no two names have one file
abbrev pub IsApart : State → Type 0
IsApart s = (n m : Name) (file : ℕ) → names_of s n ≡ Some file → names_of s m ≡ Some file → same n m ≡ true

pub record IsKept (files : Files) (s : State) : Type 0 where
  pub reads : (n : Name) → get files n ≡ read s n
  pub whole : IsWhole s
  pub apart : IsApart s

below_prop : (count : ℕ) (file : Option ℕ) → IsProp (IsBelow count file)
below_prop count None = hlevel props
below_prop count (Some file) = hlevel props

pub whole_prop : (s : State) → IsProp (IsWhole s)
whole_prop s = hlevel (props, below_prop)

pub kept_prop : (files : Files) (s : State) → IsProp (IsKept files s)
kept_prop files s = hlevel (props, whole_prop)
