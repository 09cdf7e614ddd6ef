use Rattle.pl_form.proofs.MarkedLaws.{candidate_is}
use Rattle.pl_form.proofs.read.candidate.Goals as goal

pub returns : goal.returns
returns c =
    candidate_is c.args.undo.now c.args.original c.args.object c.args.lists c.args.digest.now c.args.stamp _ _ c.requires c.checksum_in-checksum.ensures c.version_in.ensures
