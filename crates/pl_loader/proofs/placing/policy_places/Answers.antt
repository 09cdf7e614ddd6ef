use Rattle.std.proofs.lemmas.Result.{err_from_is_err_and}
use Rattle.pl_loader.proofs.PlaceLaws.{places_free, fault_is}
use Rattle.pl_loader.proofs.placing.policy_places.Goals as goal

pub returns-in_err-place_all-clause-stops : goal.returns-in_err-place_all-clause-stops
returns-in_err-place_all-clause-stops g c =
    let p = err_from_is_err_and c.from_residual.result c.from_residual.ensures.1 in
    rw (p.1, p.2) (fault_is _ _ c.args.wants.now _ (rw c.region.ensures at c.in_err-place_all.ensures.fault))

pub returns-clause-placed : goal.returns-clause-placed
returns-clause-placed g c = rw c.region.ensures at c.in_ok-place_all.ensures.places

pub returns-clause-free : goal.returns-clause-free
returns-clause-free g c = places_free _ c.args.taken.now c.args.wants.now _ (rw c.region.ensures at c.in_ok-place_all.ensures.places)
