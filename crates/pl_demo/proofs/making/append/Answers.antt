use Rattle.std.proofs.Common.{refl}
use Rattle.pl_demo.proofs.making.append.Goals as goal

pub returns-in-Ok : goal.returns-in-Ok
returns-in-Ok c = c.in-Ok.ensures.calls.files refl
