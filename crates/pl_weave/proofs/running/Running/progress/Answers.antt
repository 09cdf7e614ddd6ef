use Rattle.std.proofs.Common.{refl}
use Rattle.pl_weave.proofs.RunningLemmas.{told_is}
use Rattle.pl_weave.proofs.running.Running.progress.Goals as goal

pub returns : goal.returns
returns c r stands = told_is c.args.self r c.tell_under_way.new.told c.tell_waiting.new.told stands (rw c.len.ensures at c.in_ok-tell_under_way.ensures) c.in_ok-tell_waiting.ensures
