use Rattle.std.proofs.Common.{arith}
use Rattle.pl_folder.specs.Tables.{started_with}
use Rattle.pl_folder.proofs.PastLemmas.{clock_after}
use Rattle.pl_folder.proofs.memory_folder.MemoryFolder.moments.Goals as goal

pub returns : goal.returns
returns c = omega (arith, c.len.ensures, clock_after c.args.self.now.past.items (started_with c.args.self.now.first))
