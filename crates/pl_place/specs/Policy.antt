-- What a policy may answer: a policy chooses an address in holes for a span of addresses with an alignment.
use Rattle.std.specs.Prelude.{◌≡◌, ℕ, ◌<◌, ◌≤◌, ◌^◌, true, List, Option, Some, None}
use Rattle.std.specs.Borrow.{Bor}
use Rattle.std.specs.Int.{is_power_of_two}
use Rattle.pl_elf.specs.declared.range.Range.{Range}
use Rattle.pl_slots.specs.Holes.{AreHoles, HasNoPlace, IsPlace}

-- an aligned address at which the span lies whole in one of the holes, and none only where there is no such address
abbrev pub MayAnswer : List Range → ℕ → ℕ → Option ℕ → Type 0
MayAnswer holes span align (Some start) = IsPlace holes span align start
MayAnswer holes span align None = HasNoPlace holes span align

-- the greatest of these addresses
abbrev pub IsHighest : List Range → ℕ → ℕ → ℕ → Type 0
IsHighest holes span align start = IsPlace holes span align start × ((other : ℕ) → IsPlace holes span align other → other ≤ start)

-- what a policy is asked: a span above 0 and an alignment that is a power of two
pub record IsAsked (span align : ℕ) : Type 0 where
  pub some : 0 < span
  pub power : is_power_of_two align ≡ true

-- a policy, by the relations of its calls: it may be called for all holes, spans and alignments
abbrev pub MayChoose : (Bor (List Range) → ℕ → ℕ → Type 0) → Type 0
MayChoose pre = (holes : Bor (List Range)) (span align : ℕ) → AreHoles holes.now → span < 2 ^ 64 → align < 2 ^ 64 → IsAsked span align → pre holes span align

-- and then answers as it may
abbrev pub Chooses : (Bor (List Range) → ℕ → ℕ → Option ℕ → Type 0) → Type 0
Chooses post = (holes : Bor (List Range)) (span align : ℕ) (answer : Option ℕ) → AreHoles holes.now → span < 2 ^ 64 → align < 2 ^ 64 → IsAsked span align → post holes span align answer → MayAnswer holes.now span align answer

-- what a policy's calls may answer
abbrev pub Answering : Type 1
Answering = Bor (List Range) → ℕ → ℕ → Option ℕ → Type 0

-- a call for these holes answered so
abbrev pub Answered : Answering → List Range → ℕ → ℕ → Option ℕ → Type 0
Answered post holes span align answer = (at : Bor (List Range)) × (at.now ≡ holes) × post at span align answer

-- a policy as a function of holes, a span and an alignment
abbrev pub Choice : Type 0
Choice = List Range → ℕ → ℕ → Option ℕ

-- each answer of a policy is the function's
abbrev pub Follows : Answering → Choice → Type 0
Follows post choose = (holes : Bor (List Range)) (span align : ℕ) (answer : Option ℕ) → post holes span align answer → answer ≡ choose holes.now span align
