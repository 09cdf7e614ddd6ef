use Rattle.std.proofs.Common.{◌≡◌, ◌∙◌, rules}
use Rattle.pl_object.specs.PlaceClauses.{last_load}
use Rattle.pl_form.specs.Back.{front_of}
use Rattle.pl_form.specs.Reading.{standing, zeros_behind}
use Rattle.pl_form.proofs.MarkedLaws.{head_here, layout_spots, flat_is, stamp_is}
use Rattle.pl_form.proofs.read.standing_in.Goals as goal

pub layout_of-requires-clause-head : goal.layout_of-requires-clause-head
layout_of-requires-clause-head c = head_here c.args.original.now c.args.object.now c.requires

pub layout_of-requires-clause-few : goal.layout_of-requires-clause-few
layout_of-requires-clause-few c = c.requires.firm.few

pub returns-clause-stamp : goal.returns-clause-stamp
returns-clause-stamp c =
    stamp_is c.args.object.now c.args.original.now c.in_ok-layout.layout c.of-front.result (front_of c.args.undo.now c.args.file.now) c.in_ok-stamp.stamp c.in_ok-layout.ensures c.of-front.ensures c.in_ok-stamp.ensures

pub returns-clause-flat : goal.returns-clause-flat
returns-clause-flat c =
    let file = c.args.file.now in
    let u = c.args.undo.now in
    let x = c.args.object.now in
    let spots = c.as_slice.result.now in
    let front = c.of-front.result in
    let flat = c.in_ok-flat.flat.items in
    let stand : flat ≡ standing spots front (zeros_behind (last_load x.segments) file) = search rules in
    flat_is file c.args.original.now u x spots front flat c.requires.firm.accepted (c.as_slice.ensures ∙ layout_spots c.args.original.now c.in_ok-layout.layout c.in_ok-layout.ensures) c.of-front.ensures stand
