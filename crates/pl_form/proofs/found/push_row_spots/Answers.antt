use Rattle.std.proofs.Common.{sym, ◌∙◌, arith}
use Rattle.pl_base.specs.Windows.{Window}
use Rattle.pl_form.specs.Found.{raw_places}
use Rattle.pl_form.proofs.SpotLaws.{spots_more, spots_done, row_count, row_at}
use Rattle.pl_form.proofs.found.push_row_spots.Goals as goal

pub loop-index-preserved : goal.loop-index-preserved
loop-index-preserved c =
    let symbols = c.args.symbols.now in
    let table = c.args.table.now in
    let i = c.loop-index.index in
    let none : Window = record { at = 0; size = 0 } in
    spots_more c.args.memory.now (raw_places symbols table) i none _ _ _ _ _ (omega (arith, row_count symbols table)) (c.raw_place-place.ensures ∙ sym (row_at symbols table i none c.loop-index-test.true)) c.spot_of.ensures
    c.in_ok-push.ensures.items c.loop-index.invariant

pub returns : goal.returns
returns c = spots_done c.args.memory.now (raw_places c.args.symbols.now c.args.table.now) _ _ _ (omega (arith, row_count c.args.symbols.now c.args.table.now)) c.loop-index.invariant
