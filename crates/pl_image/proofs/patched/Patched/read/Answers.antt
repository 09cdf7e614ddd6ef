use Rattle.std.proofs.Common.{◌≡◌, subst}
use Rattle.std.specs.Prelude.{IfOk}
use Rattle.pl_base.specs.Memory.{read}
use Rattle.pl_image.specs.Image.{Image, patched}
use Rattle.pl_image.proofs.patched.Patched.read.Goals as goal

pub returns : goal.returns
returns c = subst (λ (i : Image). IfOk c.read.result (λ v. v.items ≡ read (patched i) c.args.from c.args.size)) c.self.view_is c.read.ensures
