use Rattle.std.proofs.Common.{Bool, List, ap, ◌∙◌}
use Rattle.std.proofs.lemmas.Result.{err_from_is_err_and}
use Rattle.pl_cone.specs.Currency.{stale_rows, stamps_of}
use Rattle.pl_cone.proofs.PlanLaws.{all_planned, places_long, rows_planned, slots_stop, stale_long, stamp_stop}
use Rattle.pl_cone.proofs.planning.plan_of.Goals as goal

pub slots_of-requires : goal.slots_of-requires
slots_of-requires c = (c.args.asked.now.region, c.requires)

pub stale_rows-requires : goal.stale_rows-requires
stale_rows-requires c = record {
  table = (c.args.asked.now.region, c.requires);
  places = rw c.as_slice.ensures (places_long c.args.table.now c.in_ok-placed.placed.slots c.in_ok-placed.placed.places c.in_ok-placed.ensures.2);
}

pub stamps_of-requires : goal.stamps_of-requires
stamps_of-requires c = rw c.as_slice-3.ensures (stale_long c.args.table.now _ c.in_ok-stale.stale c.in_ok-stale.ensures)

pub returns-in_err-placed-clause-planned : goal.returns-in_err-placed-clause-planned
returns-in_err-placed-clause-planned c =
    let p = err_from_is_err_and c.from_residual.result c.from_residual.ensures.1 in
    rw (p.1, p.2) (slots_stop c.args.asked.now c.args.table.now _ c.requires c.in_err-placed.ensures)

pub returns-in_err-stamp-clause-planned : goal.returns-in_err-stamp-clause-planned
returns-in_err-stamp-clause-planned c =
    let p = err_from_is_err_and c.from_residual-in_err-stamp.result c.from_residual-in_err-stamp.ensures.1 in
    let placed = c.in_ok-placed.ensures in
    rw (p.1, p.2) (stamp_stop c.args.asked.now c.args.table.now c.in_ok-placed.placed.slots c.in_ok-placed.placed.places c.in_ok-stale.stale
    (record { table = c.requires; given = placed.0; named = placed.1; laid = placed.2; flagged = c.in_ok-stale.ensures ∙ ap (stale_rows c.args.table.now) c.as_slice.ensures }) _ (rw c.as_slice-2.ensures at c.in_err-stamp.ensures))

pub returns-clause-planned : goal.returns-clause-planned
returns-clause-planned c =
    let placed = c.in_ok-placed.ensures in
    all_planned c.args.asked.now c.args.table.now c.in_ok-placed.placed.slots c.in_ok-placed.placed.places c.in_ok-stale.stale
    (record { table = c.requires; given = placed.0; named = placed.1; laid = placed.2; flagged = c.in_ok-stale.ensures ∙ ap (stale_rows c.args.table.now) c.as_slice.ensures }) c.in_ok-stamp.stamp c.in_ok-stamps.stamps (rw c.as_slice-2.ensures at c.in_ok-stamp.ensures)

pub returns-clause-rows : goal.returns-clause-rows
returns-clause-rows c =
    let placed = c.in_ok-placed.ensures in
    rows_planned c.args.asked.now c.args.table.now c.in_ok-placed.placed.slots c.in_ok-placed.placed.places c.in_ok-stale.stale
    (record { table = c.requires; given = placed.0; named = placed.1; laid = placed.2; flagged = c.in_ok-stale.ensures ∙ ap (stale_rows c.args.table.now) c.as_slice.ensures }) c.in_ok-stamp.stamp c.in_ok-stamps.stamps
    (c.in_ok-stamps.ensures ∙ ap (λ (s : List Bool). stamps_of c.args.table.now.files.now s c.in_ok-stamp.stamp) c.as_slice-3.ensures)
