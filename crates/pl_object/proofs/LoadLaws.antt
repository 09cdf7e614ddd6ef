-- What is known of the last PT_LOAD.
use Rattle.std.proofs.Common.{◌≡◌, ◌+◌, ◌≤◌, false, List, [], ◌∷◌, Option, Some, None, inl, inr}
use Rattle.std.specs.Prelude.{IfSome, fold, if◌then◌else◌}
use Rattle.std.specs.List.{list_any}
use Rattle.std.proofs.lemmas.Bool.{cases_Bool, or_parts}
use Rattle.pl_elf.specs.declared.constants.TheConstants.{ADDRESS_LIMIT}
use Rattle.pl_elf.specs.declared.segment.Segment.{Segment}
use Rattle.pl_elf.specs.Headers.{is_load, loads}
use Rattle.pl_elf.specs.Clauses.{AreLoads, bad_load}
use Rattle.pl_elf.proofs.AcceptedLaws.{load_fits}
use Rattle.pl_object.specs.PlaceClauses.{last_load}

abbrev Fits : Segment → Type 0
Fits s = s.vaddr + s.memsz ≤ ADDRESS_LIMIT

-- the last one after those before, all of which fit
fits_from : (found : Option Segment) (ss : List Segment) → IfSome found Fits → list_any bad_load (loads ss) ≡ false → IfSome (fold (λ f s. if is_load s then Some s else f) found ss) Fits
fits_from found [] before none = before
fits_from found (s ∷ ss) before none =
    elim (cases_Bool (is_load s)) [
      | inl hit ↦
          let parts = or_parts (bad_load s) (list_any bad_load (loads ss)) (rw hit at none) in
          rw hit (fits_from (Some s) ss (load_fits s parts.0).ends parts.1)
      | inr miss ↦ rw miss (fits_from found ss before (rw miss at none))
    ]

pub last_load_fits : (ss : List Segment) → AreLoads (loads ss) → IfSome (last_load ss) (λ s. s.vaddr + s.memsz ≤ ADDRESS_LIMIT)
unfolding last_load
last_load_fits ss are = fits_from None ss tt are.fit
