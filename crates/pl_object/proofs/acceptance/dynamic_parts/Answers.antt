use Rattle.pl_object.proofs.ReadLaws.{parts_dynamic}
use Rattle.pl_object.proofs.acceptance.dynamic_parts.Goals as goal

pub returns : goal.returns
returns c =
    rw (parts_dynamic c.args.bytes.now c.args.headers c.in_ok-dynamic.dynamic c.requires.dynamic (rw c.as_slice.ensures at c.in_ok-dynamic.ensures)) c.dynamic_object.ensures
