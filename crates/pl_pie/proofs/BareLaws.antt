-- No program that is fixed at a policy's answer is a prelinked file.
use Rattle.std.proofs.Common.{◌≡◌, ◌<◌, ◌^◌, ℕ, length, Bool, true, false, List, Option, Some, None, refl, subst, inl, inr}
use Rattle.std.specs.Prelude.{if◌then◌else◌}
use Rattle.std.proofs.lemmas.Bool.{cases_Bool}
use Rattle.pl_form.specs.Files.{marked_in}
use Rattle.pl_object.specs.declared.object.Object.{Object}
use Rattle.pl_pie.specs.Fix.{fits, fixed_bytes}
use Rattle.pl_pie.specs.Pie.{pie}
use Rattle.pl_pie.proofs.FitLaws.{fits_may}
use Rattle.pl_pie.specs.Placed.{FixedFilesAreBare, IsSmall, fixed_at, pie_holes, placed, placed_by}
use Rattle.pl_pie.specs.declared.placing.Placing.{Placing}
use Rattle.pl_pie.specs.declared.placing.Placing.TheVariants.{Fixed, NoPlace}
use Rattle.pl_pie.proofs.FixedLaws.{made_bare}
use Rattle.pl_pie.proofs.PlaceLaws.{fixed_small}

pub small_at : (bytes : List ℕ) (o : Object) → pie bytes ≡ Some o → length bytes < 2 ^ 32 → (place : Option ℕ) → IsSmall (fixed_at bytes o place)
small_at bytes o e few None = tt
small_at bytes o e few (Some at) = elim (cases_Bool (fits o at)) [
  | inl fit ↦ rw fit (fixed_small bytes o at e few)
  | inr miss ↦ rw miss tt
]

same_fixed : (a b : ℕ) (file other : List ℕ) → ◌≡◌ {A = Placing} (Fixed a file) (Fixed b other) → file ≡ other
same_fixed a b file other e = cc

pub fixed_bare : FixedFilesAreBare
unfolding placed
fixed_bare choose bytes file at e = of_pie (pie bytes) refl e
  where
    of_test : (o : Object) (a : ℕ) (b : Bool) → pie bytes ≡ Some o → fits o a ≡ b → (if b then Fixed a (fixed_bytes a o bytes) else NoPlace) ≡ Fixed at file → marked_in file ≡ None
    of_test o a false is fit h = absurd cc
    of_test o a true is fit h = subst (λ (f : List ℕ). marked_in f ≡ None) (same_fixed a at (fixed_bytes a o bytes) file h) (made_bare bytes o a is (fits_may o a fit))

    of_place : (o : Object) (place : Option ℕ) → pie bytes ≡ Some o → fixed_at bytes o place ≡ Fixed at file → marked_in file ≡ None
    of_place o None is h = absurd cc
    of_place o (Some a) is h = of_test o a (fits o a) is refl h

    of_pie : (m : Option Object) → pie bytes ≡ m → placed_by choose bytes m ≡ Fixed at file → marked_in file ≡ None
    of_pie None is h = absurd cc
    of_pie (Some o) is h = of_place o (choose pie_holes o.span o.align) is h
