-- The places of libraries are those that pl_place gives.
use Rattle.std.proofs.Common.{◌≡◌, ℕ, List, [], ◌∷◌, Option, Ok, Err, refl, sym, ap, arith, length, inl, inr}
use Rattle.pl_elf.specs.declared.range.Range.{Range}
use Rattle.pl_place.specs.Left.{left}
use Rattle.pl_place.specs.Placing.{InTurn, ArePlacedInTurn, IsFault, want_range}
use Rattle.pl_place.specs.Policy.{Answering, Choice, Follows}
use Rattle.pl_slots.specs.Holes.{without}
use Rattle.pl_slots.specs.declared.slot.Want.{Want}
use Rattle.pl_place.specs.declared.fault.PlaceFault.{PlaceFault}
use Rattle.pl_place.specs.declared.fault.PlaceFault.TheVariants as place
use Rattle.pl_place.proofs.PlacedLaws.{all_fit, fit_free, all_apart, all_chosen, stops_chosen}
use Rattle.pl_loader.specs.Faults.{of_place}
use Rattle.pl_loader.specs.Places.{region, holes_beside, wants_beside, places, IsPlaced, IsUnplaced, StopsOf, StopsFiles, IsFree}
use Rattle.pl_loader.specs.declared.object_file.ObjectFile.{ObjectFile}
use Rattle.pl_loader.specs.declared.fault.LoadFault.TheVariants as load

-- ---- by the policy

one_each : (post : Answering) (holes : List Range) (wants : List Want) (starts : List ℕ) → InTurn post holes wants starts → length starts ≡ length wants
one_each post holes [] [] placed = refl
one_each post holes [] (start ∷ starts) placed = absurd placed
one_each post holes (want ∷ wants) [] placed = absurd placed
one_each post holes (want ∷ wants) (start ∷ starts) placed =
    let rest = one_each post (without (want_range want start) holes) wants starts placed.1 in
    omega (arith, rest)

pub places_free : (post : Answering) (busy : List Range) (wants : List Want) (starts : List ℕ) → ArePlacedInTurn post (left region busy) wants starts → IsFree region busy wants starts
places_free post busy wants starts placed = record {
  one_each = one_each post (left region busy) wants starts placed.in_turn;
  free = fit_free region busy wants starts (all_fit post (left region busy) wants starts placed);
  apart = all_apart post (left region busy) wants starts placed;
}

-- why there are none, as the load's fault
pub fault_is : (post : Answering) (holes : List Range) (wants : List Want) (fault : PlaceFault) → IsFault post holes wants fault → StopsOf post holes wants (of_place fault)
fault_is post holes wants (place.NoPlace name) is = record { because = inr (name, refl, is.because) }
fault_is post holes wants place.NoMemory is = record { because = inl refl }

-- no memory
pub lacks_beside : (post : Answering) (busy : Option Range) (files : List ObjectFile) → StopsFiles post busy files load.NoMemory
lacks_beside post busy files = record { because = inl refl }

-- ---- by a policy that follows a function

pub places_chosen : (post : Answering) (choose : Choice) (busy : Option Range) (files : List ObjectFile) (at : List ℕ) → Follows post choose → IsPlaced post busy files at → places choose busy files ≡ Ok at
unfolding places
places_chosen post choose busy [] at follows placed = ap Ok (sym placed)
places_chosen post choose busy (program ∷ fs) at follows placed =
    let is = all_chosen post choose (holes_beside busy program fs) (wants_beside busy program fs) placed.0 follows placed.1 in
    rw is (ap Ok (sym placed.2))

pub unplaced_chosen : (post : Answering) (choose : Choice) (busy : Option Range) (files : List ObjectFile) (name : List ℕ) → Follows post choose → IsUnplaced post busy files name → places choose busy files ≡ Err (load.NoPlace name)
unfolding places
unplaced_chosen post choose busy [] name follows stops = absurd stops
unplaced_chosen post choose busy (program ∷ fs) name follows stops =
    let is = stops_chosen post choose follows (holes_beside busy program fs) (wants_beside busy program fs) name stops in
    rw is refl
