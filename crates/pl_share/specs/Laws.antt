-- How the plan of libraries that may not share addresses agrees with that of all rows of a cache, and with that of libraries that may.
use Rattle.std.specs.Prelude.{◌≡◌, ◌≢◌, ℕ, ◌<◌, true, List, length, AllPairs}
use Rattle.pl_elf.specs.declared.range.Range.{Range}
use Rattle.pl_slots.specs.declared.slot.Want.{Want}
use Rattle.pl_slots.specs.declared.slot.Slot.{Slot}
use Rattle.pl_slots.specs.Apart.{are_apart}
use Rattle.pl_slots.specs.Plan.{plan}
use Rattle.pl_share.specs.Disjoint.{disjoint}
use Rattle.pl_share.specs.Together.{are_together}
use Rattle.pl_share.specs.Shared.{plan_shared}

-- no two wants have one name
abbrev pub NamesDiffer : List Want → Type 0
NamesDiffer wants = AllPairs (λ a b. a.name ≢ b.name) wants

-- each two of so many wants are loaded together
abbrev pub AllAreTogether : List (List ℕ) → ℕ → Type 0
AllAreTogether walks count = (i j : ℕ) → i < count → j < count → are_together walks i j ≡ true

-- over a cache whose rows share no address the plan with the rows that are kept apart is the plan with all rows
abbrev pub ApartRowsGiveThePlan : Type 0
ApartRowsGiveThePlan = (rows : List Slot) (wants : List Want) (region : Range) → are_apart rows ≡ true → NamesDiffer wants → plan (disjoint rows wants region) wants region ≡ plan rows wants region

-- where each two libraries are loaded together, the plan of those that may share addresses is that of those that may not
abbrev pub TogetherIsApart : Type 0
TogetherIsApart = (rows : List Slot) (wants : List Want) (walks : List (List ℕ)) (region : Range) → AllAreTogether walks (length wants) → NamesDiffer wants
    → plan_shared rows wants walks region ≡ plan (disjoint rows wants region) wants region
