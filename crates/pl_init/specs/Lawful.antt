-- Orders in which the members of a walk may be initialised, and the one that is printed.
use Rattle.std.specs.Prelude.{◌≡◌, ◌≢◌, ℕ, zero, suc, ◌<◌, Bool, true, not, ◌&&◌, ◌||◌, ◌==◌, nat_lt, List, [], ◌∷◌, ◌++◌, length, find, Option, Some, None}
use Rattle.std.specs.List.{list_all, range_with_len}
use Rattle.pl_scope.specs.Walk.{Walked}
use Rattle.pl_init.specs.declared.relation.ReachRow.{ReachRow}
use Rattle.pl_init.specs.Graph.{has_number}
use Rattle.pl_init.specs.Leads.{Precedes}
use Rattle.pl_init.specs.Right.{reaches}

-- ---- what is meant

-- all numbers of an order are numbers of members
abbrev pub AreMembers : Walked → List ℕ → Type 0
AreMembers walked order = (m : ℕ) → has_number order m ≡ true → m < length walked

-- an order has each member once, and each stands behind all that have to come before it
pub record IsLawful (walked : Walked) (order : List ℕ) : Type 0 where
  pub members : AreMembers walked order
  pub all : (m : ℕ) → m < length walked → has_number order m ≡ true
  pub once : (front back : List ℕ) (m : ℕ) → order ≡ front ++ m ∷ back → has_number front m ≢ true
  -- (`Precedes` of Leads: what a member reaches by needed names; of two that reach each other the earlier in the walk)
  pub behind : (front back : List ℕ) (m k : ℕ) → order ≡ front ++ m ∷ back → Precedes walked k m → has_number front k ≡ true

-- all that have to come before a member stand
abbrev pub IsReady : Walked → List ℕ → ℕ → Type 0
IsReady walked front m = (k : ℕ) → Precedes walked k m → has_number front k ≡ true

-- at each step of an order the earliest member of the walk that does not stand yet and is ready
pub record IsPrinted (walked : Walked) (order : List ℕ) : Type 0 where
  pub ready : (front back : List ℕ) (m : ℕ) → order ≡ front ++ m ∷ back → IsReady walked front m
  pub earliest : (front back : List ℕ) (m k : ℕ) → order ≡ front ++ m ∷ back → k < m → has_number front k ≢ true → IsReady walked front k → ⊥

-- ---- the same by rows

-- x has to come before y
unfoldable pub precedes : List ReachRow → ℕ → ℕ → Bool
precedes rows x y = reaches rows y x && (not (reaches rows x y) || nat_lt x y)

-- all of the members, so many, that have to come before one stand
abbrev pub is_ready : List ReachRow → ℕ → List ℕ → ℕ → Bool
is_ready rows count front m = list_all (λ k. has_number front k || not (precedes rows k m)) (range_with_len 0 count)

-- a member that does not stand and is ready
unfoldable pub is_next : List ReachRow → ℕ → List ℕ → ℕ → Bool
is_next rows count front m = not (has_number front m) && is_ready rows count front m

-- each in turn is a member that does not stand and is ready
unfoldable pub are_next : List ReachRow → ℕ → List ℕ → List ℕ → Bool
are_next rows count front [] = true
are_next rows count front (m ∷ order) = nat_lt m count && is_next rows count front m && are_next rows count (front ++ m ∷ []) order

abbrev pub is_lawful : List ReachRow → ℕ → List ℕ → Bool
is_lawful rows count order = length order == count && are_next rows count [] order

abbrev pub with_next : Option ℕ → List ℕ → (ℕ → List ℕ) → List ℕ
with_next None front step = front
with_next (Some m) front step = step m

-- the next member is the earliest that does not stand and is ready
unfoldable pub ordered : List ReachRow → ℕ → ℕ → List ℕ → List ℕ
ordered rows count zero front = front
ordered rows count (suc most) front = with_next (find (is_next rows count front) (range_with_len 0 count)) front (λ m. ordered rows count most (front ++ m ∷ []))
