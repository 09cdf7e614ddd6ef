use Rattle.std.proofs.Common.{take}
use Rattle.std.specs.Prelude.{fold}
use Rattle.pl_image.specs.Index.{AreLaid, laid_by}
use Rattle.pl_image.proofs.patched.lay_all.Given as goal

abbrev pub invariant-loop-touch : goal.invariant-loop-touch
invariant-loop-touch l = AreLaid (λ a found. fold (laid_by l.patches a) found (take l.touch-index l.touches)) l.from l.fn.bytes l.bytes
