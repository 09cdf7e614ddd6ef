-- Walks among libraries that need one another alone.
use Rattle.std.specs.Prelude.{◌≡◌, ◌⊎◌, ◌<◌, ℕ, true, List, length, Result, Ok}
use Rattle.pl_elf.specs.declared.kind.Kind.TheVariants.{Library}
use Rattle.pl_object.specs.declared.object.Object.{Object}
use Rattle.pl_scope.specs.Members.{IsLinked, has, names}
use Rattle.pl_scope.specs.Walk.{Walked, walk}
use Rattle.pl_scope.specs.declared.constants.TheConstants.{MAX_MEMBERS}
use Rattle.pl_scope.specs.declared.fault.WalkFault.{WalkFault}

-- an object needs no name but these
abbrev pub NeedsOnly : List (List ℕ) → Object → Type 0
NeedsOnly names o = (n : List ℕ) → has o.needed n ≡ true → has names n ≡ true

-- a name has a library, which needs no name but these
pub record IsLibraryOf {E : Type 0} (files : List ℕ → Result Object E) (names : List (List ℕ)) (n : List ℕ) : Type 0 where
  pub object : Object
  pub file : files n ≡ Ok object
  pub kind : object.kind ≡ Library
  pub needs : NeedsOnly names object

-- so has each of these names, and there are fewer than a walk may have
pub record AreClosed {E : Type 0} (files : List ℕ → Result Object E) (names : List (List ℕ)) : Type 0 where
  pub few : length names < MAX_MEMBERS
  pub each : (n : List ℕ) → has names n ≡ true → IsLibraryOf files names n

-- a program or library that needs no name but these
pub record IsRoot {E : Type 0} (files : List ℕ → Result Object E) (names : List (List ℕ)) (n : List ℕ) (o : Object) : Type 0 where
  pub file : files n ≡ Ok o
  pub linked : IsLinked o.kind
  pub needs : NeedsOnly names o

-- a walk of a name, in which each other member is one of these
pub record WalksWithin {E : Type 0} (fault : WalkFault → E) (files : List ℕ → Result Object E) (all : List (List ℕ)) (n : List ℕ) : Type 0 where
  pub walked : Walked
  pub walks : walk fault files n ≡ Ok walked
  pub within : (m : List ℕ) → has (names walked) m ≡ true → (m ≡ n) ⊎ (has all m ≡ true)

-- the walk of such a name is not refused, and stays among them
abbrev pub RootsWalkWithin : Type 0 → Type 0
RootsWalkWithin E = (fault : WalkFault → E) (files : List ℕ → Result Object E) (all : List (List ℕ)) (n : List ℕ) (o : Object) → AreClosed files all → IsRoot files all n o → WalksWithin fault files all n
