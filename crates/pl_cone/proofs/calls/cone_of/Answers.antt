use Rattle.std.proofs.Common.{length, ap, ◌∙◌}
use Rattle.std.proofs.lemmas.List.{length-map}
use Rattle.std.proofs.lemmas.Result.{err_from_is_err_and}
use Rattle.pl_cone.specs.Calls.{place_of}
use Rattle.pl_cone.specs.Currency.{stale_rows}
use Rattle.pl_cone.specs.Table.{names_where}
use Rattle.pl_cone.proofs.PlanLaws.{stale_long}
use Rattle.pl_cone.proofs.PrelinkableLaws.{cone_given, cone_refused}
use Rattle.pl_cone.proofs.calls.cone_of.Goals as goal

pub stale_rows-requires : goal.stale_rows-requires
stale_rows-requires c = record {
  table = c.requires;
  places = ap length c.as_slice.ensures ∙ (ap length c.in_ok-places.ensures ∙ length-map c.args.table.now.files.now (place_of c.args.slots.now));
}

pub names_where-requires : goal.names_where-requires
names_where-requires c = rw c.as_slice-3.ensures (stale_long c.args.table.now _ c.in_ok-flags.flags c.in_ok-flags.ensures)

pub returns-in_err-stamp : goal.returns-in_err-stamp
returns-in_err-stamp c = λ region is.
    let p = err_from_is_err_and c.from_residual-in_err-stamp.result c.from_residual-in_err-stamp.ensures.1 in
    rw (p.1, p.2) (cone_refused region c.args.table.now c.args.slots.now c.in_ok-places.places c.in_ok-flags.flags c.args.last c.args.now is c.in_ok-places.ensures
    (c.in_ok-flags.ensures ∙ ap (stale_rows c.args.table.now) c.as_slice.ensures) _ (rw c.as_slice-2.ensures at c.in_err-stamp.ensures))

pub returns : goal.returns
returns c = λ region is.
    cone_given region c.args.table.now c.args.slots.now c.in_ok-places.places c.in_ok-flags.flags c.args.last c.args.now is c.in_ok-places.ensures (c.in_ok-flags.ensures ∙ ap (stale_rows c.args.table.now) c.as_slice.ensures) c.in_ok-stamp.stamp c.in_ok-stale.stale
    (rw c.as_slice-2.ensures at c.in_ok-stamp.ensures) (c.in_ok-stale.ensures ∙ ap (names_where c.args.table.now.files.now) c.as_slice-3.ensures)
