use Rattle.std.proofs.Common.{◌≡◌, ◌∙◌, sym, get_or, false, true}
use Rattle.std.proofs.lemmas.List.{get_or_default}
use Rattle.pl_relr.specs.Pack.{is_packable}
use Rattle.pl_relr.proofs.PackLaws.{tested_more, tested_stops, tested_all, are_packable}
use Rattle.pl_relr.proofs.packing.is_packable.Goals as goal

pub returns-then-not-follows-clause-value : goal.returns-then-not-follows-clause-value
returns-then-not-follows-clause-value c =
    let places = c.args.places.now in
    let i = c.loop-place.place-index in
    tested_stops c.loop-place.next i (get_or places i 0) places (is_packable places) c.loop-place-test.true (get_or_default places i 0 (get_or places i 0) c.loop-place-test.true) (sym c.follows.ensures ∙ c.if-not-follows.true) c.loop-place.invariant

pub loop-place-preserved : goal.loop-place-preserved
loop-place-preserved c =
    let places = c.args.places.now in
    let i = c.loop-place.place-index in
    tested_more c.loop-place.next i (get_or places i 0) places (is_packable places) c.loop-place-test.true (get_or_default places i 0 (get_or places i 0) c.loop-place-test.true) (sym c.follows.ensures ∙ c.if-not-follows.false) c.loop-place.invariant

pub returns-clause-value : goal.returns-clause-value
returns-clause-value c = tested_all c.loop-place.next c.loop-place.place-index c.args.places.now (is_packable c.args.places.now) c.loop-place-test.false c.loop-place.invariant

pub returns-clause-facts : goal.returns-clause-facts
returns-clause-facts c = are_packable c.args.places.now (sym (returns-clause-value c))
