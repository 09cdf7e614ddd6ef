use Rattle.std.proofs.Common.{take}
use Rattle.pl_folder.specs.Disk.{IsWhole}
use Rattle.pl_folder.specs.Replay as past
use Rattle.pl_folder.specs.Replaying.{Stands}
use Rattle.pl_folder.specs.Tables.{started_with}
use Rattle.pl_folder.proofs.memory_folder.MemoryFolder.image.Given as goal

abbrev pub invariant-loop-call : goal.invariant-loop-call
invariant-loop-call l = record {
  whole : IsWhole (past.replay (take l.call-index l.call-items) (started_with l.self.first)).now;
  stands : Stands l.replay (past.replay (take l.call-index l.call-items) (started_with l.self.first)).now;
}
