-- The places of a load are one for each file, the first's at 0.
use Rattle.std.proofs.Common.{◌≡◌, ℕ, suc, List, [], ◌∷◌, ◌++◌, length, Option, Some, None, Ok, refl, sym, ap, subst, ◌∙◌, arith}
use Rattle.std.specs.Option.{ok_or}
use Rattle.pl_base.specs.Answers.{◌>>=◌, because}
use Rattle.pl_base.proofs.AnswerLaws.{bind_ok, because_ok, ok_same}
use Rattle.pl_elf.specs.declared.range.Range.{Range}
use Rattle.pl_place.specs.Placing.{chosen, want_range}
use Rattle.pl_place.specs.Policy.{Choice}
use Rattle.pl_place.specs.declared.fault.PlaceFault.TheVariants.{NoPlace}
use Rattle.pl_slots.specs.Holes.{without}
use Rattle.pl_slots.specs.declared.slot.Want.{Want}
use Rattle.pl_loader.specs.Faults.{of_place}
use Rattle.pl_loader.specs.Places.{slot_place, range_at_slot, slot_places, wants_left, joined, taken_first, holes_beside, wants_beside, all_places, places}
use Rattle.pl_loader.specs.declared.object_file.ObjectFile.{ObjectFile}
use Rattle.law_loads.specs.Paths.{AreAt}
use Rattle.law_loads.specs.Loads.{PlacesAreAt}

-- one for each want
chosen_size : (choose : Choice) (holes : List Range) (wants : List Want) (starts : List ℕ) → chosen choose holes wants ≡ Ok starts → length starts ≡ length wants
unfolding chosen
chosen_size choose holes [] starts is = ap length (sym (ok_same [] starts is))
chosen_size choose holes (want ∷ wants) starts is =
    let p = bind_ok (ok_or (choose holes want.span want.align) (NoPlace want.name)) (λ start. chosen choose (without (want_range want start) holes) wants >>= λ more. Ok (start ∷ more)) starts is in
    let q = bind_ok (chosen choose (without (want_range want p.0) holes) wants) (λ more. Ok (p.0 ∷ more)) starts p.2 in
    let rest = chosen_size choose (without (want_range want p.0) holes) wants q.0 q.1 in
    ap length (sym (ok_same (p.0 ∷ q.0) starts q.2)) ∙ ap suc rest

-- a library's own place, or one of those
joined_size : (taken : List Range) (fs : List ObjectFile) (starts : List ℕ) → length starts ≡ length (wants_left fs (slot_places taken fs)) → length (joined (slot_places taken fs) starts) ≡ length fs
unfolding slot_places wants_left joined
joined_size taken [] starts size = refl
joined_size taken (f ∷ fs) starts size = by (slot_place taken f) starts (λ own more few. joined_size (taken ++ range_at_slot f own) fs more few) size
  where
    by : (own : Option ℕ) (starts : List ℕ) → ((own : Option ℕ) (more : List ℕ) → length more ≡ length (wants_left fs (slot_places (taken ++ range_at_slot f own) fs)) → length (joined (slot_places (taken ++ range_at_slot f own) fs) more) ≡ length fs)
        → length starts ≡ length (wants_left (f ∷ fs) (own ∷ slot_places (taken ++ range_at_slot f own) fs)) → length (joined (own ∷ slot_places (taken ++ range_at_slot f own) fs) starts) ≡ suc (length fs)
    by (Some slot) starts rest size = ap suc (rest (Some slot) starts size)
    by None [] rest size = absurd (omega (arith, size))
    by None (start ∷ starts) rest size = ap suc (rest None starts (omega (arith, size)))

pub places_are_at : PlacesAreAt
places_are_at busy [] at chosen = subst (λ (ps : List ℕ). AreAt [] ps) (sym chosen) (record { first = refl; one_each = refl })
places_are_at busy (program ∷ libraries) at chosen =
    subst (λ (ps : List ℕ). AreAt (program ∷ libraries) ps) (sym chosen.2) (record { first = refl; one_each = ap suc (joined_size (taken_first busy program) libraries chosen.0 chosen.1) })

-- by a policy that is a function
pub chosen_are_at : (choose : Choice) (busy : Option Range) (all : List ObjectFile) (at : List ℕ) → places choose busy all ≡ Ok at → AreAt all at
unfolding places
chosen_are_at choose busy [] at is = places_are_at busy [] at (sym (ok_same [] at is))
chosen_are_at choose busy (program ∷ libraries) at is =
    let p = bind_ok (because of_place (chosen choose (holes_beside busy program libraries) (wants_beside busy program libraries))) (λ starts. Ok (all_places busy program libraries starts)) at is in
    let starts = because_ok of_place (chosen choose (holes_beside busy program libraries) (wants_beside busy program libraries)) p.0 p.1 in
    let size = chosen_size choose (holes_beside busy program libraries) (wants_beside busy program libraries) p.0 starts in
    places_are_at busy (program ∷ libraries) at (p.0, size, sym (ok_same (all_places busy program libraries p.0) at p.2))
