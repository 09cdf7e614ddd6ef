use Rattle.std.proofs.lemmas.Result.{err_from_is_err_and}
use Rattle.pl_ver.specs.Chains.{defined, needed}
use Rattle.pl_ver.proofs.CollectingLaws.{both, first_fails}
use Rattle.pl_ver.proofs.collecting.collect.Goals as goal

pub returns-in_err-records : goal.returns-in_err-records
returns-in_err-records c =
    let p = err_from_is_err_and c.from_residual-in_err-records.result c.from_residual-in_err-records.ensures.1 in
    rw (p.1, p.2) (first_fails (defined c.args.verdef.now c.args.defs) (needed c.args.verneed.now c.args.needs) _ (rw c.in_ok-new.ensures at c.in_err-records.ensures))

pub returns : goal.returns
returns c =
    rw (both (defined c.args.verdef.now c.args.defs) (needed c.args.verneed.now c.args.needs) _ (rw c.in_ok-new.ensures at c.in_ok-records.ensures)) c.with_needed.ensures
