-- Rows that are kept are apart.
use Rattle.std.proofs.Common.{◌≡◌, true, List, [], ◌∷◌, Option, Some, None, refl, sym, subst, inl, inr}
use Rattle.std.specs.Prelude.{fold}
use Rattle.std.specs.List.{list_all}
use Rattle.std.proofs.lemmas.Bool.{cases_Bool}
use Rattle.std.proofs.lemmas.List.{append-nil}
use Rattle.pl_elf.specs.declared.range.Range.{Range}
use Rattle.pl_slots.specs.declared.slot.Want.{Want}
use Rattle.pl_slots.specs.declared.slot.Slot.{Slot}
use Rattle.pl_slots.specs.Apart.{is_beside, are_apart}
use Rattle.pl_slots.specs.Plan.{kept_row}
use Rattle.pl_slots.proofs.ApartLaws.{apart_with}
use Rattle.pl_share.specs.Disjoint.{with_disjoint_row, disjoint}

with_row_apart : (kept : List Slot) (row : Option Slot) → are_apart kept ≡ true → are_apart (with_disjoint_row kept row) ≡ true
with_row_apart kept None apart = apart
with_row_apart kept (Some row) apart =
    elim (cases_Bool (list_all (is_beside row) kept)) [
      | inl clear ↦ rw clear (apart_with kept [] row (subst (λ (z : List Slot). are_apart z ≡ true) (sym (append-nil kept)) apart) (subst (λ (z : List Slot). list_all (is_beside row) z ≡ true) (sym (append-nil kept)) clear))
      | inr meets ↦ rw meets apart
    ]

all_apart : (rows : List Slot) (region : Range) (wants : List Want) (kept : List Slot) → are_apart kept ≡ true → are_apart (fold (λ kept want. with_disjoint_row kept (kept_row rows region want)) kept wants) ≡ true
all_apart rows region [] kept apart = apart
all_apart rows region (want ∷ wants) kept apart = all_apart rows region wants (with_disjoint_row kept (kept_row rows region want)) (with_row_apart kept (kept_row rows region want) apart)

pub disjoint_apart : (rows : List Slot) (wants : List Want) (region : Range) → are_apart (disjoint rows wants region) ≡ true
unfolding disjoint
disjoint_apart rows wants region = all_apart rows region wants [] refl
