use Rattle.std.proofs.Common.{◌∙◌}
use Rattle.pl_hash.proofs.JumpLaws.{own_answers, if_ok_so}
use Rattle.pl_hash.proofs.jumps.found.Goals as goal

pub returns-clause-exact : goal.returns-clause-exact
returns-clause-exact c =
    let t = c.args.table.now in
    let hashes = c.args.hashes.now in
    let qs = c.in_ok-queries.queries.items in
    if_ok_so _ _ (λ v own i lt. own i lt ∙ own_answers t hashes c.in_ok-first.first.items qs i c.requires c.in_ok-first.ensures c.in_ok-queries.ensures lt) c.all_reached.result (rw c.deref-2.ensures.value at c.all_reached.ensures.exact)
