use Rattle.std.proofs.Common.{ap, List, ℕ}
use Rattle.pl_slots.specs.Holes.{IsPlace}
use Rattle.pl_pie.specs.Placed.{pie_holes}
use Rattle.pl_pie.specs.declared.placing.Placing.TheVariants.{Fixed}
use Rattle.pl_pie.proofs.PlaceLaws.{aligned_at, ends_below, place_fits}
use Rattle.pl_pie.proofs.placed.fix_at.Goals as goal

pub read_fixed-requires-clause-may : goal.read_fixed-requires-clause-may
read_fixed-requires-clause-may c =
    let o = c.args.object in
    let fits : IsPlace pie_holes o.span o.align c.in-Some.address = rw c.in-Some.is at c.requires.place in
    record { aligned = aligned_at c.in-Some.address o.align fits.0; ends = ends_below c.in-Some.address o.span fits.1 }

pub returns-in_ok-read_fixed-in-Some : goal.returns-in_ok-read_fixed-in-Some
returns-in_ok-read_fixed-in-Some c =
    let o = c.args.object in
    let at = c.in-Some.address in
    let place : IsPlace pie_holes o.span o.align at = rw c.in-Some.is at c.requires.place in
    rw (c.in-Some.is, place_fits o at place) (ap (λ (file : List ℕ). Fixed at file) c.in_ok-read_fixed-in-Some.ensures)
