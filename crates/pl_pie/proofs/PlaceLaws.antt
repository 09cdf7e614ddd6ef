-- What the calls of lower crates ask, at a place in the region of position-independent programs.
use Rattle.std.proofs.Common.{◌≡◌, ℕ, ◌+◌, ◌%◌, ◌^◌, ◌<◌, ◌≤◌, Bool, true, false, List, length, Some, refl, arith, ◌∙◌}
use Rattle.std.specs.Prelude.{◌||◌, ◌&&◌, ◌==◌, nat_le}
use Rattle.std.proofs.lemmas.Bool.{eqb-true, false≢true, leb-true}
use Rattle.pl_base.specs.Sums.{is_aligned}
use Rattle.pl_object.specs.declared.object.Object.{Object}
use Rattle.pl_pie.specs.Fix.{fits, fixed_bytes}
use Rattle.pl_pie.specs.Pie.{as_program, pie}
use Rattle.pl_pie.proofs.CallLaws.{program_size}
use Rattle.pl_pie.proofs.PieLaws.{IsPie, pie_is, not_static}
use Rattle.pl_pie.proofs.RebasedLaws.{rebased_length}
use Rattle.pl_slots.specs.Holes.{IsPlace, fits_at, hole, region_holes}
use Rattle.pl_pie.specs.Placed.{pie_holes}

pub aligned_at : (at align : ℕ) → is_aligned at align ≡ true → at % align ≡ 0
aligned_at at align h = eqb-true (at % align) 0 h

second : (a b : Bool) → ((a && b) || false) ≡ true → b ≡ true
second true true h = refl
second true false h = absurd (false≢true h)
second false b h = absurd (false≢true h)

-- a program at a place ends below the limit of addresses
pub ends_below : (at span : ℕ) → fits_at pie_holes span at ≡ true → at + span ≤ 2 ^ 47
unfolding region_holes hole
ends_below at span h =
    let in_region : at + span ≤ 201863462912 = leb-true (at + span) 201863462912 (second (nat_le 137438953472 at) (nat_le (at + span) 201863462912) h) in
    omega (arith, in_region)

both : (a b : Bool) → ((a && b) || false) ≡ true → (a ≡ true) × (b ≡ true)
both true true h = (refl, refl)
both true false h = absurd (false≢true h)
both false b h = absurd (false≢true h)

-- a place of the region is an address at which the program fits
pub place_fits : (o : Object) (at : ℕ) → IsPlace pie_holes o.span o.align at → fits o at ≡ true
unfolding region_holes hole fits
place_fits o at is =
    let parts = both (nat_le 137438953472 at) (nat_le (at + o.span) 201863462912) is.1 in
    let aligned : (at % o.align == 0) ≡ true = is.0 in
    rw (aligned, parts.0, parts.1) refl

-- a fixed file is as long as the program
fixed_length : (bytes : List ℕ) (o : Object) (at : ℕ) → pie bytes ≡ Some o → length (fixed_bytes at o bytes) ≡ length bytes
unfolding fixed_bytes
fixed_length bytes o at e =
    let is : IsPie bytes o = pie_is bytes o e in
    rebased_length at (as_program bytes) o is.accepted (not_static o.kind is.program) ∙ program_size bytes o e

pub fixed_small : (bytes : List ℕ) (o : Object) (at : ℕ) → pie bytes ≡ Some o → length bytes < 2 ^ 32 → length (fixed_bytes at o bytes) < 2 ^ 32
fixed_small bytes o at e few = let size = fixed_length bytes o at e in omega (arith, size, few)
