-- What is known of the rows and of the order of each walk.
use Rattle.std.specs.Prelude.{◌≡◌, ◌≢◌, ◌⊎◌, ◌≤◌, ℕ, true, List, [], ◌∷◌, ◌++◌, length}
use Rattle.pl_scope.specs.Walk.{Walked}
use Rattle.pl_scope.specs.Members.{IsWalk}
use Rattle.pl_init.specs.declared.relation.ReachRow.{ReachRow}
use Rattle.pl_init.specs.Graph.{graph}
use Rattle.pl_init.specs.Leads.{Needs}
use Rattle.pl_init.specs.Right.{is_right, reaches, AreReaches}
use Rattle.pl_init.specs.Lawful.{IsLawful, IsPrinted, ordered}
use Rattle.pl_init.specs.OrderText.{walk_rows, printed}

-- ---- rows

-- no two rows lead from one member to one other, and each shows a chain: its `via` is its `from`, or one to which an earlier row of that `from` leads, and needs its `to`
pub record ShowChains (walked : Walked) (rows : List ReachRow) : Type 0 where
  pub once : (front back : List ReachRow) (r : ReachRow) → rows ≡ front ++ r ∷ back → reaches front r.from r.to ≢ true
  pub by : (front back : List ReachRow) (r : ReachRow) → rows ≡ front ++ r ∷ back → (r.via ≡ r.from) ⊎ (reaches front r.from r.via ≡ true)
  pub needs : (front back : List ReachRow) (r : ReachRow) → rows ≡ front ++ r ∷ back → Needs walked r.via r.to

-- rows that are right are the relation "reaches"
abbrev pub RightRowsAreReaches : Type 0
RightRowsAreReaches = (walked : Walked) (rows : List ReachRow) → IsWalk walked → is_right (graph walked) rows ≡ true → AreReaches walked rows

-- and each shows a chain
abbrev pub RightRowsShowChains : Type 0
RightRowsShowChains = (walked : Walked) (rows : List ReachRow) → IsWalk walked → is_right (graph walked) rows ≡ true → ShowChains walked rows

-- the rows of a walk are right
abbrev pub WalkRowsAreRight : Type 0
WalkRowsAreRight = (walked : Walked) → IsWalk walked → is_right (graph walked) (walk_rows walked) ≡ true

-- ---- the order

-- where another lawful order differs first, it has a later member
abbrev pub IsEarliest : Walked → List ℕ → Type 0
IsEarliest walked order = (other front back other_back : List ℕ) (m k : ℕ) → IsLawful walked other → order ≡ front ++ m ∷ back → other ≡ front ++ k ∷ other_back → m ≤ k

-- the printed order has each member once, behind all that have to come before it
abbrev pub PrintedIsLawful : Type 0
PrintedIsLawful = (walked : Walked) → IsWalk walked → IsLawful walked (printed walked)

-- each member of it is the earliest that is ready there
abbrev pub PrintedTakesTheEarliest : Type 0
PrintedTakesTheEarliest = (walked : Walked) → IsWalk walked → IsPrinted walked (printed walked)

-- of all lawful orders it is the earliest
abbrev pub PrintedIsEarliest : Type 0
PrintedIsEarliest = (walked : Walked) → IsWalk walked → IsEarliest walked (printed walked)

-- all rows that are right give this order
abbrev pub RightRowsGivePrinted : Type 0
RightRowsGivePrinted = (walked : Walked) (rows : List ReachRow) → IsWalk walked → is_right (graph walked) rows ≡ true → ordered rows (length walked) (length walked) [] ≡ printed walked
