use Rattle.std.proofs.Common.{arith}
use Rattle.pl_form.proofs.FindingLaws.{whole_of}
use Rattle.pl_form.proofs.back.find_undo.Goals as goal

pub returns-in-Ok-clause-whole : goal.returns-in-Ok-clause-whole
returns-in-Ok-clause-whole c = whole_of c.part.result.now c.in-Ok.undo (omega (arith, c.part.ensures.within, c.requires)) c.in-Ok.ensures.found
