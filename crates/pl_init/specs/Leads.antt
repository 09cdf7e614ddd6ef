-- What leads to what in a walk, by chains of needed names; and which member has to be initialised before which (System V gABI, chapter 5, "Initialization and Termination Functions": dependencies first. The choice in a cycle is this project's).
use Rattle.std.specs.Prelude.{◌≡◌, ◌≢◌, ◌⊎◌, ℕ, ◌<◌, true, List, Some, slice_get}
use Rattle.pl_object.specs.declared.object.Object.{Object}
use Rattle.pl_scope.specs.Walk.{Walked}
use Rattle.pl_scope.specs.Members.{has}

-- one member needs another: the name of the second is among those that the first one's object needs
pub record Needs (walked : Walked) (i j : ℕ) : Type 0 where
  pub needing : List ℕ × Object
  pub needed : List ℕ × Object
  pub from : slice_get walked i ≡ Some needing
  pub to : slice_get walked j ≡ Some needed
  pub name : has needing.1.needed needed.0 ≡ true

-- a chain of one or more needed names
pub data Leads (walked : Walked) (i : ℕ) : ℕ → Type 0 where
  One : (j : ℕ) → Needs walked i j → Leads walked i j
  More : (j k : ℕ) → Leads walked i j → Needs walked j k → Leads walked i k

-- such a chain leads from one member to another
pub record Reaches (walked : Walked) (i j : ℕ) : Type 0 where
  pub leads : Leads walked i j
  pub other : j ≢ i

-- x has to come before y: y reaches x and x does not reach y, or each reaches the other and x is earlier in the walk
abbrev pub Precedes : Walked → ℕ → ℕ → Type 0
Precedes walked x y = (Reaches walked y x × (Reaches walked x y → ⊥)) ⊎ (Reaches walked y x × Reaches walked x y × (x < y))
