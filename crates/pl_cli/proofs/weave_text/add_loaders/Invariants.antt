use Rattle.std.proofs.Common.{◌≡◌, ◌++◌, take}
use Rattle.pl_place.specs.Policy.{Choice, Follows}
use Rattle.pl_weave.specs.Running.{HavePolicy}
use Rattle.pl_cli.specs.Weave.{loaders_text}
use Rattle.pl_cli.proofs.weave_text.add_loaders.Given as goal

abbrev pub invariant-loop-number : goal.invariant-loop-number
invariant-loop-number g l = (p : _) (choose : Choice) → HavePolicy p l.weave → Follows (λ holes span align answer. g.F.Fn.post p (holes, (span, (align, tt))) answer) choose → l.out.text.items ≡ l.fn.out.text.items ++ loaders_text choose 0 (take l.number l.weave)
