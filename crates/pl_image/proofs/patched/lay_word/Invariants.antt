use Rattle.pl_image.specs.Index.{AreLaid}
use Rattle.pl_image.proofs.PatchedLemmas.{at_some}
use Rattle.pl_image.proofs.patched.lay_word.Given as goal

abbrev pub invariant-loop-offset : goal.invariant-loop-offset
invariant-loop-offset l = AreLaid (at_some l.patch l.number l.offset) l.from l.fn.bytes l.bytes
