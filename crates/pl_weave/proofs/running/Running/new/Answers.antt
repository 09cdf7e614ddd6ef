use Rattle.std.proofs.Common.{refl}
use Rattle.pl_folder.specs.InMemory.{quiet_files}
use Rattle.pl_weave.proofs.running.Running.new.Goals as goal

pub begin_next-requires : goal.begin_next-requires
begin_next-requires c = (quiet_files c.args.folder, record { same = refl; no_own = c.requires.no_own; stored = c.requires.stored; steps = c.new-2.ensures; done = refl }, c.requires.runs)

pub returns : goal.returns
returns c = rw c.new.ensures at (c.in_ok-begin_next.ensures (quiet_files c.args.folder) (record { same = refl; no_own = c.requires.no_own; stored = c.requires.stored; steps = c.new-2.ensures; done = refl }))
