use Rattle.std.proofs.Common.{rules}
use Rattle.pl_change.proofs.LentLemmas.{first_of, second_of}
use Rattle.pl_change.proofs.lending.recover_for.Goals as goal

pub returns-clause-calls : goal.returns-clause-calls
returns-clause-calls g c =
    let same = first_of _ _ _ _ c.recover_held.ensures.calls.referent in
    let own = second_of _ _ _ _ c.recover_held.ensures.calls.referent in
    record { tells = search rules; records = search rules; referent = search rules; files = search rules; disk = search rules; count = search rules }
