use Rattle.std.proofs.Common.{◌+◌, ◌-◌, refl, sym, ◌∙◌, arith, ◌++◌, map, drop}
use Rattle.std.specs.List.{filter}
use Rattle.pl_relr.specs.Places.{has_bit, place_of_bit, place_bits, odd_places}
use Rattle.pl_relr.proofs.PlaceLaws.{passing_more, passing_less, passing_done, next_bit, length-place_bits}
use Rattle.pl_relr.proofs.unpacking.push_odd.Goals as goal
use Rattle.pl_relr.proofs.unpacking.push_odd.Goals.{then-has_bit+in_ok-push, else-has_bit}

pub loop-bit-init : goal.loop-bit-init
unfolding odd_places
loop-bit-init c = refl

pub loop-bit-preserved : goal.loop-bit-preserved
loop-bit-preserved c =
    let next = c.args.next in
    let entry = c.args.entry in
    let bit = c.loop-bit.bit in
    let whole = c.args.places.now.items ++ odd_places next entry in
    let rest = map (place_of_bit next) (filter (has_bit entry) (drop (bit + 1 - 1) place_bits)) in
    let at = next_bit bit c.loop-bit.auto.bit c.loop-bit-test.true in
    elim c.if-has_bit.branch [
      | then-has_bit+in_ok-push w ↦
          rw (w.places-is, w.in_ok-push.ensures.items)
          (passing_more (place_of_bit next) (has_bit entry) c.loop-bit.places.items whole place_bits (bit - 1) (bit + 1 - 1) bit at (sym c.has_bit.ensures ∙ w.if-has_bit.true) c.loop-bit.invariant)
      | else-has_bit w ↦
          rw w.places-is
          (passing_less (place_of_bit next) (has_bit entry) c.loop-bit.places.items whole place_bits (bit - 1) (bit + 1 - 1) bit at (sym c.has_bit.ensures ∙ w.if-has_bit.false) c.loop-bit.invariant)
    ]

pub returns : goal.returns
returns c = passing_done (place_of_bit c.args.next) (has_bit c.args.entry) c.loop-bit.places.items (c.args.places.now.items ++ odd_places c.args.next c.args.entry) place_bits (c.loop-bit.bit - 1) (omega (arith, length-place_bits)) c.loop-bit.invariant
