-- Objects under names, and scopes that are made of them.
use Rattle.std.specs.Prelude.{◌≡◌, ℕ, true, List, Option, Some, slice_get}
use Rattle.pl_object.specs.declared.object.Object.{Object}
use Rattle.pl_scope.specs.Members.{names, has}
use Rattle.pl_scope.specs.Walk.{Walked}

-- each member of a scope has the object of its name
abbrev pub IsMadeOf : (List ℕ → Option Object) → Walked → Type 0
IsMadeOf objects walked = (i : ℕ) (n : List ℕ) (o : Object) → slice_get walked i ≡ Some (n, o) → objects n ≡ Some o

-- a member has a name
pub record IsMember (walked : Walked) (i : ℕ) (n : List ℕ) : Type 0 where
  pub object : Object
  pub at : slice_get walked i ≡ Some (n, object)

-- the members of one scope are among those of another, by their names
abbrev pub IsWithin : Walked → Walked → Type 0
IsWithin inner walked = (n : List ℕ) → has (names inner) n ≡ true → has (names walked) n ≡ true
