-- What holes are known to meet.
use Rattle.std.proofs.Common.{◌≡◌, ℕ, ◌+◌, ◌≤◌, ◌<◌, ◌&&◌, not, List, [], ◌∷◌, ◌++◌, Some, refl, sym, ◌∙◌, inl, inr, arith, append_assoc}
use Rattle.std.specs.Prelude.{nat_le, nat_lt, min, max}
use Rattle.std.proofs.lemmas.Bool.{leb-true, lt-ltb, le-ltb, cases_lt}
use Rattle.std.proofs.lemmas.Bool.Decides.{nat_tests}
use Rattle.std.proofs.lemmas.List.Folds.{list_any-append}
use Rattle.std.specs.List.{find, flat_map}
use Rattle.pl_base.specs.Sums.{round_up}
use Rattle.pl_base.proofs.FindLaws.{find_passes}
use Rattle.pl_elf.specs.declared.range.Range.{Range}
use Rattle.pl_slots.specs.Holes.{hole, region_holes, cut, without, fits_in, AreHoles, AreHolesFrom, is_free}
use Rattle.pl_elf.specs.Ranges.{has}

-- a hole that is found holds the span
pub found_fits : (span align : ℕ) (holes : List Range) (hole : Range) → Some hole ≡ find (fits_in span align) holes → round_up hole.start align + span ≤ hole.end
unfolding fits_in
found_fits span align holes hole is = leb-true (round_up hole.start align + span) hole.end (find_passes (fits_in span align) holes hole (sym is))

-- ---- holes stay holes

-- from a lower address on
pub from_lower : (low high : ℕ) (holes : List Range) → low ≤ high → AreHolesFrom high holes → AreHolesFrom low holes
from_lower low high [] le are = tt
from_lower low high (h ∷ holes) le are = (omega arith, are.1, are.2)

-- one hole more in front, unless it is empty
hole_in_front : (low start end : ℕ) (holes : List Range) → low ≤ start → AreHolesFrom low holes → (start < end → AreHolesFrom (end + 1) holes) → AreHolesFrom low (hole start end ++ holes)
unfolding hole
hole_in_front low start end holes le are behind = elim (cases_lt start end) [
  | inl lt ↦ rw (lt-ltb start end lt) (le, lt, behind lt)
  | inr none ↦ rw (le-ltb start end none) are
]

-- what is left of a hole, in front of holes behind it
cut_in_front : (taken free : Range) (low : ℕ) (holes : List Range) → taken.start < taken.end → low ≤ free.start → free.start < free.end → AreHolesFrom (free.end + 1) holes → AreHolesFrom low (cut taken free ++ holes)
unfolding cut
cut_in_front taken free low holes some le lt behind =
    rw append_assoc (hole_in_front low free.start (min free.end taken.start) (hole (max free.start taken.end) free.end ++ holes) le
    (hole_in_front low (max free.start taken.end) free.end holes (omega arith) (from_lower low (free.end + 1) holes (omega arith) behind) (λ _. behind))
    (λ _. hole_in_front (min free.end taken.start + 1) (max free.start taken.end) free.end holes (omega arith) (from_lower (min free.end taken.start + 1) (free.end + 1) holes (omega arith) behind) (λ _. behind)))

without_from : (taken : Range) (low : ℕ) (holes : List Range) → taken.start < taken.end → AreHolesFrom low holes → AreHolesFrom low (without taken holes)
unfolding without
without_from taken low [] some are = tt
without_from taken low (free ∷ holes) some are =
    cut_in_front taken free low (flat_map (cut taken) holes) some are.0 are.1 (without_from taken (free.end + 1) holes some are.2)

-- what is left of holes are holes
pub without_are_holes : (taken : Range) (holes : List Range) → taken.start < taken.end → AreHoles holes → AreHoles (without taken holes)
without_are_holes taken holes some are = without_from taken 0 holes some are

-- and so are those of a region
pub region_are_holes : (region : Range) → AreHoles (region_holes region)
unfolding region_holes hole
region_are_holes region = elim (cases_lt region.start region.end) [
  | inl lt ↦ rw (lt-ltb region.start region.end lt) (omega arith, lt, tt)
  | inr none ↦ rw (le-ltb region.start region.end none) tt
]

-- ---- which addresses are free

free_in_hole : (address start end : ℕ) → is_free address (hole start end) ≡ (nat_le start address && nat_lt address end)
unfolding hole
free_in_hole address start end = grind (arith, nat_tests)

free_in_cut : (address : ℕ) (taken free : Range) → is_free address (cut taken free) ≡ (has address free && not (has address taken))
unfolding cut
free_in_cut address taken free =
    list_any-append (has address) (hole free.start (min free.end taken.start)) (hole (max free.start taken.end) free.end)
    ∙ (rw (free_in_hole address free.start (min free.end taken.start), free_in_hole address (max free.start taken.end) free.end) (grind (arith, nat_tests)))

-- the addresses that were free and are not in the range
pub free_without : (address : ℕ) (taken : Range) (holes : List Range) → is_free address (without taken holes) ≡ (is_free address holes && not (has address taken))
unfolding without
free_without address taken [] = refl
free_without address taken (free ∷ holes) =
    list_any-append (has address) (cut taken free) (flat_map (cut taken) holes)
    ∙ (rw (free_in_cut address taken free, free_without address taken holes) (grind (arith, nat_tests)))

-- those of a region
pub free_in_region : (address : ℕ) (region : Range) → is_free address (region_holes region) ≡ has address region
unfolding region_holes
free_in_region address region = free_in_hole address region.start region.end
